-- Places of lists one behind the other, a list more at a time.
use Rattle.std.proofs.Common.{◌≡◌, ℕ, ◌+◌, ◌-◌, ◌*◌, ◌<◌, ◌≤◌, List, [], ◌∷◌, ◌++◌, length}
use Rattle.std.proofs.Common.{get_or, take, drop, sym, ap, ◌∙◌, arith, length-append}
use Rattle.std.specs.List.{concat, flat_map}
use Rattle.std.proofs.lemmas.List.{take_more, take-append-drop, append-nil}
use Rattle.std.proofs.lemmas.List.Concat.{flat_map-append}
use Rattle.packed_form.specs.declared.packed_songs.PackedSubtune.{PackedSubtune}
use Rattle.song_lists.specs.DataLists.{orders_of, places_from}
use Rattle.song_lists.proofs.Pieces.{concat-append}

places_from-append : (from : ℕ) (front back : List (List ℕ)) →
    places_from from (front ++ back) ≡ places_from from front ++ places_from (from + length (concat front)) back
places_from-append from [] back =
    let e : from ≡ from + 0 = omega arith in
    ap (λ (p : ℕ). places_from p back) e
places_from-append from (list ∷ front) back =
    let e : from + length list + length (concat front) ≡ from + length (list ++ concat front) =
    omega (arith, length-append list (concat front)) in
    ap (λ (ps : List ℕ). from ∷ ps)
    (places_from-append (from + length list) front back
    ∙ ap (λ (p : ℕ). places_from (from + length list) front ++ places_from p back) e)

length_both : (front back : List (List ℕ)) →
    length (concat (front ++ back)) ≡ length (concat front) + length (concat back)
length_both front back = ap length (concat-append front back) ∙ length-append (concat front) (concat back)

-- what a loop reads next
pub take_read : {X : Type 0} (xs : List X) (i : ℕ) (x : X) → i < length xs → x ≡ get_or xs i x →
    take (i + 1) xs ≡ take i xs ++ x ∷ []
take_read {X} xs i x inside is = take_more xs i x inside ∙ ap (λ (y : X). take i xs ++ y ∷ []) (sym is)

-- ---- lists

pub more_lists : (lists : List (List ℕ)) (i : ℕ) (x : List ℕ) → i < length lists → x ≡ get_or lists i x →
    length (concat (take (i + 1) lists)) ≡ length (concat (take i lists)) + length x
more_lists lists i x inside is =
    let one = length_both (take i lists) (x ∷ []) in
    let last = ap length (append-nil x) in
    let more = ap (λ (ls : List (List ℕ)). length (concat ls)) (take_read lists i x inside is) in
    omega arith

some_lists : (lists : List (List ℕ)) (i : ℕ) → length (concat (take i lists)) ≤ length (concat lists)
some_lists lists i =
    let both = length_both (take i lists) (drop i lists) in
    let all = ap (λ (ls : List (List ℕ)). length (concat ls)) (take-append-drop i lists) in
    omega arith

-- the place behind the next list is one of 16 bits
pub list_fits : (lists : List (List ℕ)) (i from place : ℕ) (x : List ℕ) → i < length lists → x ≡ get_or lists i x →
    place ≡ from + length (concat (take i lists)) → from + length (concat lists) ≤ 65535 → place + length x ≤ 65535
list_fits lists i from place x inside is e most =
    let more = more_lists lists i x inside is in
    let some = some_lists lists (i + 1) in
    omega arith

pub more_places : (from : ℕ) (lists : List (List ℕ)) (i place : ℕ) (x : List ℕ) → i < length lists →
    x ≡ get_or lists i x → place ≡ from + length (concat (take i lists)) →
    places_from from (take (i + 1) lists) ≡ places_from from (take i lists) ++ place ∷ []
more_places from lists i place x inside is e =
    ap (places_from from) (take_read lists i x inside is)
    ∙ places_from-append from (take i lists) (x ∷ [])
    ∙ ap (λ (p : ℕ). places_from from (take i lists) ++ p ∷ []) (sym e)

-- ---- orderlists, three at a time

pub more_subtunes : (subtunes : List PackedSubtune) (i : ℕ) (x : PackedSubtune) → i < length subtunes →
    x ≡ get_or subtunes i x →
    flat_map orders_of (take (i + 1) subtunes) ≡ flat_map orders_of (take i subtunes) ++ orders_of x
more_subtunes subtunes i x inside is =
    ap (flat_map orders_of) (take_read subtunes i x inside is)
    ∙ flat_map-append orders_of (take i subtunes) (x ∷ [])
    ∙ ap (λ (ls : List (List ℕ)). flat_map orders_of (take i subtunes) ++ ls) (append-nil (orders_of x))

pub more_orders : (subtunes : List PackedSubtune) (i : ℕ) (x : PackedSubtune) → i < length subtunes →
    x ≡ get_or subtunes i x →
    length (concat (flat_map orders_of (take (i + 1) subtunes)))
    ≡ length (concat (flat_map orders_of (take i subtunes))) + length x.one + length x.two + length x.three
more_orders subtunes i x inside is =
    let both = length_both (flat_map orders_of (take i subtunes)) (orders_of x) in
    let more = ap (λ (ls : List (List ℕ)). length (concat ls)) (more_subtunes subtunes i x inside is) in
    let one = length-append x.one (x.two ++ (x.three ++ [])) in
    let two = length-append x.two (x.three ++ []) in
    let three = ap length (append-nil x.three) in
    omega arith

some_orders : (subtunes : List PackedSubtune) (i : ℕ) →
    length (concat (flat_map orders_of (take i subtunes))) ≤ length (concat (flat_map orders_of subtunes))
some_orders subtunes i =
    let both = length_both (flat_map orders_of (take i subtunes)) (flat_map orders_of (drop i subtunes)) in
    let all = ap (λ (ls : List (List ℕ)). length (concat ls))
    (sym (flat_map-append orders_of (take i subtunes) (drop i subtunes))
    ∙ ap (flat_map orders_of) (take-append-drop i subtunes)) in
    omega arith

pub orders_fit : (subtunes : List PackedSubtune) (i from place : ℕ) (x : PackedSubtune) → i < length subtunes →
    x ≡ get_or subtunes i x → place ≡ from + length (concat (flat_map orders_of (take i subtunes))) →
    from + length (concat (flat_map orders_of subtunes)) ≤ 65535 →
    place + length x.one + length x.two + length x.three ≤ 65535
orders_fit subtunes i from place x inside is e most =
    let more = more_orders subtunes i x inside is in
    let some = some_orders subtunes (i + 1) in
    omega arith

pub more_order_places : (from : ℕ) (subtunes : List PackedSubtune) (i place one two : ℕ) (x : PackedSubtune)
    (before after : List ℕ) → i < length subtunes → x ≡ get_or subtunes i x →
    place ≡ from + length (concat (flat_map orders_of (take i subtunes))) → one ≡ length x.one → two ≡ length x.two →
    before ≡ places_from from (flat_map orders_of (take i subtunes)) →
    after ≡ before ++ place ∷ (place + one) ∷ (place + one + two) ∷ [] →
    after ≡ places_from from (flat_map orders_of (take (i + 1) subtunes))
more_order_places from subtunes i place one two x before after inside is e first second old new =
    new ∙ ap (λ (ps : List ℕ). ps ++ place ∷ (place + one) ∷ (place + one + two) ∷ []) old
    ∙ ap (λ (n : ℕ). places_from from (flat_map orders_of (take i subtunes))
    ++ place ∷ (place + n) ∷ (place + n + two) ∷ [])
    first
    ∙ ap (λ (n : ℕ). places_from from (flat_map orders_of (take i subtunes))
    ++ place ∷ (place + length x.one) ∷ (place + length x.one + n) ∷ []) second
    ∙ ap (λ (p : ℕ). places_from from (flat_map orders_of (take i subtunes))
    ++ p ∷ (p + length x.one) ∷ (p + length x.one + length x.two) ∷ []) e
    ∙ sym (places_from-append from (flat_map orders_of (take i subtunes)) (orders_of x))
    ∙ ap (places_from from) (sym (more_subtunes subtunes i x inside is))

-- ---- the labels of frequencies

pub label_back : (a b place back : ℕ) → a ≡ place → b ≡ back → back ≤ place → b ≤ a
label_back a b place back e f within = omega (arith, e, f, within)

pub label_below : (a b place back listed size : ℕ) → a ≡ place → b ≡ back → back ≤ place → 1 ≤ back + listed →
    place + 2 * listed ≡ size → size ≤ 65535 → a - b < 65535
label_below a b place back listed size e f within some end most = omega (arith, e, f, within, some, end, most)

pub end_below : (a n place listed size : ℕ) → a ≡ place → n ≡ listed → place + 2 * listed ≡ size → size ≤ 65535 →
    a + n ≤ 65535
end_below a n place listed size e f end most = omega (arith, e, f, end, most)

pub end_back : (a n b place back : ℕ) → a ≡ place → b ≡ back → back ≤ place → b ≤ a + n
end_back a n b place back e f within = omega (arith, e, f, within)

pub end_label_below : (a n b place back listed size : ℕ) → a ≡ place → n ≡ listed → b ≡ back → back ≤ place →
    1 ≤ back + listed → place + 2 * listed ≡ size → size ≤ 65535 → a + n - b < 65535
end_label_below a n b place back listed size e g f within some end most =
    omega (arith, e, g, f, within, some, end, most)
