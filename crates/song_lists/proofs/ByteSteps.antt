-- Bytes of lists one behind the other, a list more at a time.
use Rattle.std.proofs.Common.{◌≡◌, ℕ, ◌+◌, ◌<◌, List, [], ◌∷◌, ◌++◌, length, get_or, map}
use Rattle.std.proofs.Common.{take, refl, sym, ap, ◌∙◌, arith}
use Rattle.std.specs.List.{concat, flat_map, range_with_len}
use Rattle.std.proofs.lemmas.List.{append_assoc, append-nil}
use Rattle.std.proofs.lemmas.List.FromFn.{map-range_with_len_more}
use Rattle.packed_form.specs.declared.packed_songs.PackedSubtune.{PackedSubtune}
use Rattle.song_lists.specs.DataLists.{lows, highs, orders_of}
use Rattle.song_lists.proofs.Pieces.{concat-append}
use Rattle.song_lists.proofs.PlaceSteps.{take_read, more_subtunes}

-- an item more
pub more_from : {X : Type 0} (f : ℕ → X) (start before after : List X) (from n m : ℕ) (x : X) →
    before ≡ start ++ map f (range_with_len from n) → after ≡ before ++ x ∷ [] → from + n ≡ m → x ≡ f m →
    after ≡ start ++ map f (range_with_len from (n + 1))
more_from {X} f start before after from n m x old new at is =
    let more : map f (range_with_len from (n + 1)) ≡ map f (range_with_len from n) ++ f m ∷ [] =
    map-range_with_len_more f from n m at in
    new ∙ ap (λ (y : X). before ++ y ∷ []) is ∙ ap (λ (items : List X). items ++ f m ∷ []) old
    ∙ append_assoc start (map f (range_with_len from n)) (f m ∷ [])
    ∙ ap (λ (items : List X). start ++ items) (sym more)

pub more_made : {X : Type 0} (f : ℕ → X) (start before after : List X) (n : ℕ) (x : X) →
    before ≡ start ++ map f (range_with_len 0 n) → after ≡ before ++ x ∷ [] → x ≡ f n →
    after ≡ start ++ map f (range_with_len 0 (n + 1))
more_made {X} f start before after n x old new is = more_from f start before after 0 n n x old new (omega arith) is

-- a list more
one_more : (start before after x : List ℕ) (lists more : List (List ℕ)) → before ≡ start ++ concat lists →
    after ≡ before ++ x → more ≡ lists ++ x ∷ [] → after ≡ start ++ concat more
one_more start before after x lists more old new is =
    new ∙ ap (λ (bytes : List ℕ). bytes ++ x) old ∙ append_assoc start (concat lists) x
    ∙ ap (λ (bytes : List ℕ). start ++ (concat lists ++ bytes)) (sym (append-nil x))
    ∙ ap (λ (bytes : List ℕ). start ++ bytes) (sym (concat-append lists (x ∷ [])))
    ∙ ap (λ (ls : List (List ℕ)). start ++ concat ls) (sym is)

pub more_list_bytes : (start before after : List ℕ) (lists : List (List ℕ)) (i : ℕ) (x : List ℕ) → i < length lists →
    x ≡ get_or lists i x → before ≡ start ++ concat (take i lists) → after ≡ before ++ x →
    after ≡ start ++ concat (take (i + 1) lists)
more_list_bytes start before after lists i x inside is old new =
    one_more start before after x (take i lists) (take (i + 1) lists) old new (take_read lists i x inside is)

pub more_field_bytes : (f : ℕ → List ℕ) (start before after : List ℕ) (n : ℕ) →
    before ≡ start ++ concat (map f (range_with_len 0 n)) → after ≡ before ++ f n →
    after ≡ start ++ concat (map f (range_with_len 0 (n + 1)))
more_field_bytes f start before after n old new =
    one_more start before after (f n) (map f (range_with_len 0 n)) (map f (range_with_len 0 (n + 1))) old new
    (map-range_with_len_more f 0 n n (omega arith))

-- three orderlists more
pub more_order_bytes : (start before one two after : List ℕ) (subtunes : List PackedSubtune) (i : ℕ)
    (x : PackedSubtune) →
    i < length subtunes → x ≡ get_or subtunes i x → before ≡ start ++ concat (flat_map orders_of (take i subtunes)) →
    one ≡ before ++ x.one → two ≡ one ++ x.two → after ≡ two ++ x.three →
    after ≡ start ++ concat (flat_map orders_of (take (i + 1) subtunes))
more_order_bytes start before one two after subtunes i x inside is old first second third =
    let lists = flat_map orders_of (take i subtunes) in
    one_more start two after x.three (flat_map orders_of (take i subtunes) ++ x.one ∷ x.two ∷ [])
    (flat_map orders_of (take (i + 1) subtunes))
    (one_more start one two x.two (flat_map orders_of (take i subtunes) ++ x.one ∷ [])
    (flat_map orders_of (take i subtunes) ++ x.one ∷ x.two ∷ [])
    (one_more start before one x.one (flat_map orders_of (take i subtunes))
    (flat_map orders_of (take i subtunes) ++ x.one ∷ []) old first refl) second
    (two_more (flat_map orders_of (take i subtunes)) x.one x.two)) third
    (more_subtunes subtunes i x inside is ∙ three_more (flat_map orders_of (take i subtunes)) x.one x.two x.three)
  where
    two_more : (lists : List (List ℕ)) (a b : List ℕ) → lists ++ a ∷ b ∷ [] ≡ (lists ++ a ∷ []) ++ b ∷ []
    two_more lists a b = simp append_assoc

    three_more : (lists : List (List ℕ)) (a b c : List ℕ) →
        lists ++ a ∷ b ∷ c ∷ [] ≡ (lists ++ a ∷ b ∷ []) ++ c ∷ []
    three_more lists a b c = simp append_assoc

-- all lists
pub all_lists : (a k b c s d e f g : List (List ℕ))
    (first kept second third shared fourth fifth sixth all addresses : List ℕ) →
    first ≡ [] ++ concat a → kept ≡ first ++ concat k → second ≡ kept ++ concat b → third ≡ second ++ concat c →
    shared ≡ third ++ concat s → addresses ≡ concat d → fourth ≡ shared ++ addresses → fifth ≡ fourth ++ concat e →
    sixth ≡ fifth ++ concat f → all ≡ sixth ++ concat g →
    all ≡ concat (a ++ (k ++ (b ++ (c ++ (s ++ (d ++ (e ++ (f ++ g))))))))
all_lists a k b c s d e f g first kept second third shared fourth fifth sixth all addresses one more two three alone is
    four five six seven =
    seven ∙ ap (λ (bytes : List ℕ). bytes ++ concat g)
    (six ∙ ap (λ (bytes : List ℕ). bytes ++ concat f)
    (five ∙ ap (λ (bytes : List ℕ). bytes ++ concat e)
    (four ∙ ap (λ (bytes : List ℕ). shared ++ bytes) is ∙ ap (λ (bytes : List ℕ). bytes ++ concat d)
    (alone ∙ ap (λ (bytes : List ℕ). bytes ++ concat s)
    (three ∙ ap (λ (bytes : List ℕ). bytes ++ concat c) (two ∙ ap (λ (bytes : List ℕ). bytes ++ concat b)
    (more ∙ ap (λ (bytes : List ℕ). bytes ++ concat k) one)))))))
    ∙ joined a k b c s d e f g
  where
    joined : (a k b c s d e f g : List (List ℕ)) →
        (((((((concat a ++ concat k) ++ concat b) ++ concat c) ++ concat s) ++ concat d) ++ concat e) ++ concat f)
        ++ concat g
        ≡ concat (a ++ (k ++ (b ++ (c ++ (s ++ (d ++ (e ++ (f ++ g))))))))
    joined a k b c s d e f g = simp (concat-append, append_assoc)

-- the addresses of these places
pub four_address_lists : (start : ℕ) (orders orders' patterns patterns' : List ℕ) → orders ≡ orders' →
    patterns ≡ patterns' →
    lows start 0 orders ++ (highs start 0 orders ++ (lows start 1 patterns ++ highs start 1 patterns))
    ≡ concat (lows start 0 orders' ∷ highs start 0 orders' ∷ lows start 1 patterns' ∷ highs start 1 patterns' ∷ [])
four_address_lists start orders orders' patterns patterns' e f =
    ap (λ (ps : List ℕ). lows start 0 ps ++ (highs start 0 ps ++ (lows start 1 patterns ++ highs start 1 patterns))) e
    ∙ ap (λ (ps : List ℕ). lows start 0 orders' ++ (highs start 0 orders' ++ (lows start 1 ps ++ highs start 1 ps))) f
    ∙ ap (λ (bytes : List ℕ). lows start 0 orders' ++ (highs start 0 orders' ++ (lows start 1 patterns' ++ bytes)))
    (sym (append-nil (highs start 1 patterns')))
