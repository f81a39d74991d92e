-- Pieces are added, each once.
use Rattle.std.proofs.Common.{◌≡◌, ℕ, ◌+◌, ◌-◌, ◌/◌, ◌<◌, ◌≤◌, ◌⊎◌, true, false, List, [], ◌∷◌, ◌++◌, length, map}
use Rattle.std.proofs.Common.{get_or, All, refl, sym, ◌∙◌, ap, subst, inl, inr, arith, length-append, append_assoc}
use Rattle.std.specs.List.{list_any, position_or_len, range_with_len}
use Rattle.std.specs.Str.{bytes_eq}
use Rattle.std.proofs.Math.Seq.{get_or-append_seam}
use Rattle.std.proofs.lemmas.Bool.{cases_lt}
use Rattle.std.proofs.lemmas.List.{append-nil, get_or_append_left, length-map, get_or-map, map_push}
use Rattle.std.proofs.lemmas.List.Elements.{All-push, All-head, All-tail}
use Rattle.std.proofs.lemmas.List.FromFn.{map-range_with_len_more, length-map-range_with_len}
use Rattle.std.proofs.lemmas.List.Folds.{list_any_at}
use Rattle.std.proofs.lemmas.List.Sums.{passes_at_first}
use Rattle.std.proofs.lemmas.Slice.Eq.{bytes_eq-Decides}
use Rattle.song_model.specs.declared.rows.Row.{Row}
use Rattle.packing_rules.proofs.Laws.{place_there}
use Rattle.pattern_cut.specs.declared.lengths.PieceLength.{PieceLength}
use Rattle.pattern_cut.specs.declared.lengths.PieceLength.TheVariants.{Whole, Rows64, Rows32, Rows16, Rows8}
use Rattle.pattern_cut.specs.Pieces.{rows_of}
use Rattle.song_cut.specs.declared.collecting.Piece.{Piece}
use Rattle.song_cut.specs.Numbers.{
  most_of,
  text_of,
  no_piece,
  rows_at,
  IsWeighed,
  AreOnce,
  Grows,
  IsNumberOf,
  AreNumbersOf,
}
use Rattle.song_cut.proofs.Places.{place_past}

abbrev pub piece_text : Piece → List ℕ
piece_text piece = text_of piece.rows

-- ---- texts tell rows

pub same_text : (one other : List ℕ) → bytes_eq one other ≡ true → one ≡ other
same_text one other is = (bytes_eq-Decides one other).0 is

pub text_itself : (text : List ℕ) → bytes_eq text text ≡ true
text_itself text = (bytes_eq-Decides text text).1 refl

pub same_rows_are : (one other : List Row) → text_of one ≡ text_of other → one ≡ other
same_rows_are [] [] e = refl
same_rows_are [] (y ∷ ys) e = absurd (cc)
same_rows_are (x ∷ xs) [] e = absurd (cc)
same_rows_are (x ∷ xs) (y ∷ ys) e =
    let note : x.note ≡ y.note = (cc) in
    let instrument : x.instrument ≡ y.instrument = (cc) in
    let command : x.command ≡ y.command = (cc) in
    let param : x.param ≡ y.param = (cc) in
    let rest : text_of xs ≡ text_of ys = (cc) in
    same_cons x y xs ys note instrument command param (same_rows_are xs ys rest)
  where
    same_cons : (x y : Row) (xs ys : List Row) → x.note ≡ y.note → x.instrument ≡ y.instrument → x.command ≡ y.command →
        x.param ≡ y.param → xs ≡ ys → x ∷ xs ≡ y ∷ ys
    same_cons x y xs ys note instrument command param rest =
        let row : ℕ → ℕ → ℕ → ℕ → Row = λ a b c d. record { note = a; instrument = b; command = c; param = d } in
        ap (λ (a : ℕ). row a x.instrument x.command x.param ∷ xs) note
        ∙ ap (λ (b : ℕ). row y.note b x.command x.param ∷ xs) instrument
        ∙ ap (λ (c : ℕ). row y.note y.instrument c x.param ∷ xs) command
        ∙ ap (λ (d : ℕ). row y.note y.instrument y.command d ∷ xs) param
        ∙ ap (λ (rs : List Row). y ∷ rs) rest

-- ---- one piece more

text_at : (pieces : List Piece) (k : ℕ) → k < length pieces →
    get_or (map piece_text pieces) k [] ≡ text_of (rows_at pieces k)
text_at pieces k inside = get_or-map piece_text pieces k no_piece [] inside

-- rows whose text is there have the number of that piece
pub number_there : (pieces : List Piece) (rows : List Row) (n : ℕ) →
    list_any (bytes_eq (text_of rows)) (map piece_text pieces) ≡ true →
    n ≡ position_or_len (bytes_eq (text_of rows)) (map piece_text pieces) → IsNumberOf pieces rows n
number_there pieces rows n there is =
    let low = place_there (bytes_eq (text_of rows)) (map piece_text pieces) there in
    let count = length-map pieces piece_text in
    let inside : n < length pieces = omega arith in
    let low_n : n < length (map piece_text pieces) = omega arith in
    let passes = passes_at_first (bytes_eq (text_of rows)) (map piece_text pieces) [] low in
    let here : text_of rows ≡ get_or (map piece_text pieces) n [] =
    same_text (text_of rows) _ passes ∙ ap (λ (k : ℕ). get_or (map piece_text pieces) k []) (sym is) in
    record { inside = inside; is = sym (same_rows_are rows (rows_at pieces n) (here ∙ text_at pieces n inside)) }

-- rows whose text isn't there get the next number
pub number_new : (pieces : List Piece) (piece : Piece) (rows : List Row) (n : ℕ) →
    list_any (bytes_eq (text_of rows)) (map piece_text pieces) ≡ false →
    n ≡ position_or_len (bytes_eq (text_of rows)) (map piece_text pieces) → piece.rows ≡ rows →
    IsNumberOf (pieces ++ piece ∷ []) rows n
number_new pieces piece rows n none is rows_are =
    let past = place_past (bytes_eq (text_of rows)) (map piece_text pieces) none in
    let count = length-map pieces piece_text in
    let last : n ≡ length pieces = is ∙ past ∙ count in
    let more = length-append pieces (piece ∷ []) in
    let here : get_or (pieces ++ piece ∷ []) (length pieces) no_piece ≡ piece =
    get_or-append_seam pieces piece [] no_piece in
    record {
      inside = omega arith;
      is = ap (rows_at (pieces ++ piece ∷ [])) last ∙ ap (λ (p : Piece). p.rows) here ∙ rows_are;
    }

old_rows : (pieces : List Piece) (more : List Piece) (k : ℕ) → k < length pieces →
    rows_at (pieces ++ more) k ≡ rows_at pieces k
old_rows pieces more k inside = ap (λ (p : Piece). p.rows) (get_or_append_left pieces more no_piece k inside)

pub once_new : (pieces : List Piece) (piece : Piece) → AreOnce pieces →
    list_any (bytes_eq (text_of piece.rows)) (map piece_text pieces) ≡ false → IsWeighed piece →
    AreOnce (pieces ++ piece ∷ [])
once_new pieces piece once none weighed = record {
  weighed = All-push IsWeighed pieces piece once.weighed weighed;
  apart = λ j k j_in k_in same. by_places j k j_in k_in same (before_or_last j j_in) (before_or_last k k_in);
}
  where
    more : length (pieces ++ piece ∷ []) ≡ length pieces + 1
    more = length-append pieces (piece ∷ [])

    last_rows : rows_at (pieces ++ piece ∷ []) (length pieces) ≡ piece.rows
    last_rows = ap (λ (p : Piece). p.rows) (get_or-append_seam pieces piece [] no_piece)

    before_or_last : (k : ℕ) → k < length (pieces ++ piece ∷ []) → (k < length pieces) ⊎ (k ≡ length pieces)
    before_or_last k inside = elim (cases_lt k (length pieces)) [
      | inl low ↦ inl low
      | inr high ↦ inr (let m =
          more in omega arith)
    ]

    not_there : (k : ℕ) → k < length pieces → text_of piece.rows ≡ text_of (rows_at pieces k) → ⊥
    not_there k inside same =
        let low : k < length (map piece_text pieces) = (let count = length-map pieces piece_text in omega arith) in
        let equal : text_of piece.rows ≡ get_or (map piece_text pieces) k [] = same ∙ sym (text_at pieces k inside) in
        let passes : bytes_eq (text_of piece.rows) (get_or (map piece_text pieces) k []) ≡ true =
        (bytes_eq-Decides (text_of piece.rows) (get_or (map piece_text pieces) k [])).1 equal in
        let there = list_any_at (bytes_eq (text_of piece.rows)) (map piece_text pieces) k [] low passes in
        absurd (let e : false ≡ true = sym none ∙ there in cc)

    by_places : (j k : ℕ) → j < length (pieces ++ piece ∷ []) → k < length (pieces ++ piece ∷ []) →
        text_of (rows_at (pieces ++ piece ∷ []) j) ≡ text_of (rows_at (pieces ++ piece ∷ []) k) →
        (j < length pieces) ⊎ (j ≡ length pieces) → (k < length pieces) ⊎ (k ≡ length pieces) → j ≡ k
    by_places j k j_in k_in same (inl j_low) (inl k_low) =
        once.apart j k j_low k_low
        (ap text_of (sym (old_rows pieces (piece ∷ []) j j_low)) ∙ same
        ∙ ap text_of (old_rows pieces (piece ∷ []) k k_low))
    by_places j k j_in k_in same (inl j_low) (inr k_last) =
        absurd (not_there j j_low
        (ap text_of (sym (ap (rows_at (pieces ++ piece ∷ [])) k_last ∙ last_rows)) ∙ sym same
        ∙ ap text_of (old_rows pieces (piece ∷ []) j j_low)))
    by_places j k j_in k_in same (inr j_last) (inl k_low) =
        absurd (not_there k k_low
        (ap text_of (sym (ap (rows_at (pieces ++ piece ∷ [])) j_last ∙ last_rows)) ∙ same
        ∙ ap text_of (old_rows pieces (piece ∷ []) k k_low)))
    by_places j k j_in k_in same (inr j_last) (inr k_last) = j_last ∙ sym k_last

-- ---- more and more pieces

pub grows_none : (pieces : List Piece) → Grows 0 pieces pieces
grows_none pieces = record { more = []; is = sym (append-nil pieces); few = omega arith }

pub grows_both : (m n : ℕ) (old middle new : List Piece) → Grows m old middle → Grows n middle new →
    Grows (m + n) old new
grows_both m n old middle new first second = record {
  more = first.more ++ second.more;
  is = second.is ∙ ap (λ (pieces : List Piece). pieces ++ second.more) first.is
      ∙ append_assoc old first.more second.more;
  few =
      let one = first.few in
      let two = second.few in
      let count = length-append first.more second.more in
      omega arith;
}

pub grows_to : (m n : ℕ) (old new : List Piece) → Grows m old new → m ≤ n → Grows n old new
grows_to m n old new grows low = record { more = grows.more; is = grows.is; few = let few = grows.few in omega arith }

pub grown_length : (n : ℕ) (old new : List Piece) → Grows n old new → length new ≤ length old + n
grown_length n old new grows =
    let few = grows.few in
    let count = ap length grows.is in
    let both = length-append old grows.more in
    omega arith

pub number_stays : (n : ℕ) (old new : List Piece) (rows : List Row) (k : ℕ) → Grows n old new → IsNumberOf old rows k →
    IsNumberOf new rows k
number_stays n old new rows k grows number = record {
  inside =
      let inside = number.inside in
      let count = ap length grows.is in
      let both = length-append old grows.more in
      omega arith;
  is =
      ap (λ (pieces : List Piece). rows_at pieces k) grows.is ∙ old_rows old grows.more k number.inside ∙ number.is;
}

pub numbers_stay : (n : ℕ) (old new : List Piece) (rows : List (List Row)) (numbers : List ℕ) → Grows n old new →
    AreNumbersOf old rows numbers → AreNumbersOf new rows numbers
numbers_stay n old new rows numbers grows are = record {
  inside = stay numbers are.inside;
  are = same numbers are.inside ∙ are.are;
}
  where
    longer : length old ≤ length new
    longer =
        let count = ap length grows.is in
        let both = length-append old grows.more in
        omega arith

    stay : (ks : List ℕ) → All (λ (k : ℕ). k < length old) ks → All (λ (k : ℕ). k < length new) ks
    stay ks all = λ i d inside. let low = all i d inside in let l = longer in omega arith

    same : (ks : List ℕ) → All (λ (k : ℕ). k < length old) ks → map (rows_at new) ks ≡ map (rows_at old) ks
    same [] all = refl
    same (k ∷ ks) all =
        let here : rows_at new k ≡ rows_at old k =
        ap (λ (pieces : List Piece). rows_at pieces k) grows.is
        ∙ old_rows old grows.more k (All-head (λ (j : ℕ). j < length old) k ks all) in
        let rest = same ks (All-tail (λ (j : ℕ). j < length old) k ks all) in
        ap (λ (rows : List Row). rows ∷ map (rows_at new) ks) here
        ∙ ap (λ (others : List (List Row)). rows_at old k ∷ others) rest

-- one number more
pub numbers_push : (n : ℕ) (old new : List Piece) (rows : List (List Row)) (row_list : List Row) (numbers : List ℕ) (k
    : ℕ) →
    Grows n old new → AreNumbersOf old rows numbers → IsNumberOf new row_list k →
    AreNumbersOf new (rows ++ row_list ∷ []) (numbers ++ k ∷ [])
numbers_push n old new rows row_list numbers k grows are number =
    let stay = numbers_stay n old new rows numbers grows are in
    record {
      inside = All-push (λ (j : ℕ). j < length new) numbers k stay.inside number.inside;
      are =
          map_push (rows_at new) numbers k
          ∙ ap (λ (front : List (List Row)). front ++ rows_at new k ∷ []) stay.are
          ∙ ap (λ (r : List Row). rows ++ r ∷ []) number.is;
    }

-- with their texts beside them
texts_new : {K : Type 0} (text : K → List ℕ) (keys new : List K) (key : K) (pieces : List Piece) (piece : Piece) →
    map text keys ≡ map piece_text pieces → new ≡ keys ++ key ∷ [] → text key ≡ text_of piece.rows →
    map text new ≡ map piece_text (pieces ++ piece ∷ [])
texts_new text keys new key pieces piece together new_is text_is =
    ap (map text) new_is ∙ map_push text keys key
    ∙ ap (λ (texts : List (List ℕ)). texts ++ text key ∷ []) together
    ∙ ap (λ (one : List ℕ). map piece_text pieces ++ one ∷ []) text_is
    ∙ sym (map_push piece_text pieces piece)

pub collected_new : {K : Type 0} (text : K → List ℕ) (pieces : List Piece) (keys new_keys : List K) (key : K)
    (piece : Piece) (new : List Piece) → map text keys ≡ map piece_text pieces → AreOnce pieces →
    new ≡ pieces ++ piece ∷ [] → new_keys ≡ keys ++ key ∷ [] → text key ≡ text_of piece.rows →
    list_any (bytes_eq (text_of piece.rows)) (map piece_text pieces) ≡ false → IsWeighed piece →
    (map text new_keys ≡ map piece_text new) × AreOnce new
collected_new text pieces keys new_keys key piece new together once new_is keys_are text_is none weighed = (
  texts_new text keys new_keys key pieces piece together keys_are text_is ∙ ap (map piece_text) (sym new_is),
  subst AreOnce (sym new_is) (once_new pieces piece once none weighed),
)

-- ---- the pieces of a pattern

-- a pattern is cut into no more
pub few_pieces : (size : PieceLength) (rows n : ℕ) → n ≡ rows_of size → rows ≤ 128 → (rows + (n - 1)) / n ≤ most_of size
few_pieces Whole rows n is most = rw is (omega arith)
few_pieces Rows64 rows n is most = rw is (omega arith)
few_pieces Rows32 rows n is most = rw is (omega arith)
few_pieces Rows16 rows n is most = rw is (omega arith)
few_pieces Rows8 rows n is most = rw is (omega arith)

pub numbers_next : (old new : List Piece) (f : ℕ → List Row) (i : ℕ) (rows : List Row) (numbers more : List ℕ) (k : ℕ) →
    Grows 1 old new → AreNumbersOf old (map f (range_with_len 0 i)) numbers → rows ≡ f i → IsNumberOf new rows k →
    more ≡ numbers ++ k ∷ [] → AreNumbersOf new (map f (range_with_len 0 (i + 1))) more
numbers_next old new f i rows numbers more k grows are is number more_is =
    let next : map f (range_with_len 0 (i + 1)) ≡ map f (range_with_len 0 i) ++ f i ∷ [] =
    map-range_with_len_more f 0 i i (omega arith) in
    let here : IsNumberOf new (f i) k = subst (λ (r : List Row). IsNumberOf new r k) is number in
    let pushed = numbers_push 1 old new (map f (range_with_len 0 i)) (f i) numbers k grows are here in
    subst (λ (ks : List ℕ). AreNumbersOf new (map f (range_with_len 0 (i + 1))) ks) (sym more_is)
    (subst (λ (rs : List (List Row)). AreNumbersOf new rs (numbers ++ k ∷ [])) (sym next) pushed)

pub numbers_count : (pieces : List Piece) (f : ℕ → List Row) (i : ℕ) (numbers : List ℕ) →
    AreNumbersOf pieces (map f (range_with_len 0 i)) numbers → length numbers ≡ i
numbers_count pieces f i numbers are =
    sym (length-map numbers (rows_at pieces)) ∙ ap length are.are ∙ length-map-range_with_len f 0 i
