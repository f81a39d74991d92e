-- Where pieces stand in a song that is cut is written down pattern by pattern.
use Rattle.std.proofs.Common.{
  ◌≡◌,
  ℕ,
  ◌+◌,
  ◌<◌,
  ◌≤◌,
  List,
  [],
  ◌∷◌,
  ◌++◌,
  length,
  map,
  take,
  drop,
  nat_eq,
  min,
  slice_index,
}
use Rattle.std.proofs.Common.{All, refl, sym, ◌∙◌, ap, inl, inr, arith, length-append}
use Rattle.std.specs.List.{position_or_len, flat_map, sum_by}
use Rattle.std.proofs.Math.Seq.{get_or-append_seam}
use Rattle.std.proofs.lemmas.Bool.{cases_lt}
use Rattle.std.proofs.lemmas.Grind.{flat_map-append}
use Rattle.std.proofs.lemmas.List.{get_or_append_left, take_min, take-append-drop}
use Rattle.std.proofs.lemmas.List.Concat.{length-flat_map}
use Rattle.std.proofs.lemmas.List.Sums.{sum_by-cons}
use Rattle.std.proofs.lemmas.List.Elements.{All-head, All-tail, All-take}
use Rattle.song_model.specs.declared.orders.Order.{Order}
use Rattle.song_model.specs.declared.patterns.TheConstants.{MOST_PATTERNS}
use Rattle.pattern_cut.specs.Cuts.{in_pieces}
use Rattle.pattern_cut.specs.CutSongs.{Ways}
use Rattle.song_cut.specs.declared.table.PieceTable.{PieceTable}
use Rattle.song_cut.specs.Tables.{list_at, way_numbers}
use Rattle.song_cut.specs.Orders.{counted}
use Rattle.song_cut.specs.Cutting.{ArePlaces, CountsPlaces}

-- ---- list by list

pub record PlacedTo (table : PieceTable) (ways : Ways) (order : List ℕ) (n : ℕ) (lists : List (List ℕ)) : Type 0 where
  pub count : length lists ≡ n
  pub each : (p : ℕ) → p < n →
      list_at lists p ≡ map (λ k. position_or_len (nat_eq k) order) (way_numbers table ways p)

pub placed_none : (table : PieceTable) (ways : Ways) (order : List ℕ) (lists : List (List ℕ)) → lists ≡ [] →
    PlacedTo table ways order 0 lists
placed_none table ways order lists none = record { count = ap length none; each = λ p low. absurd (omega arith) }

pub placed_more : (table : PieceTable) (ways : Ways) (order : List ℕ) (n : ℕ) (lists : List (List ℕ)) (list : List ℕ) →
    PlacedTo table ways order n lists →
    list ≡ map (λ k. position_or_len (nat_eq k) order) (way_numbers table ways n) →
    PlacedTo table ways order (n + 1) (lists ++ list ∷ [])
placed_more table ways order n lists list so_far is = record {
  count = let count = so_far.count in length-append lists (list ∷ []) ∙ omega arith;
  each = λ p low. elim (cases_lt p n) [
    | inl before ↦ get_or_append_left lists (list ∷ []) [] p (let count =
        so_far.count in omega arith) ∙ so_far.each p before
    | inr last ↦ (
        let e : p ≡ n = omega arith in
        let count = so_far.count in
        let here : list_at (lists ++ list ∷ []) (length lists) ≡ list = get_or-append_seam lists list [] [] in
        rw e (ap (list_at (lists ++ list ∷ [])) (sym count) ∙ here ∙ is))
  ];
}

pub placed_all : (table : PieceTable) (ways : Ways) (order : List ℕ) (n : ℕ) (lists : List (List ℕ)) →
    PlacedTo table ways order n lists → n ≡ MOST_PATTERNS → ArePlaces table ways order lists
placed_all table ways order n lists all last = record {
  count = all.count ∙ last;
  each = λ p low. all.each p (omega arith);
}

-- ---- how many bytes stand for those of an orderlist

pub counted_is : (places : List (List ℕ)) (counts bytes : List ℕ) → CountsPlaces places counts →
    All (λ (b : ℕ). b < 256) bytes → counted counts bytes ≡ length (flat_map (in_pieces (list_at places)) bytes)
counted_is places counts bytes are small =
    summed bytes small ∙ sym (length-flat_map (in_pieces (list_at places)) bytes)
  where
    summed : (xs : List ℕ) → All (λ (b : ℕ). b < 256) xs →
        counted counts xs ≡ sum_by (λ b. length (in_pieces (list_at places) b)) xs
    summed [] all = refl
    summed (x ∷ xs) all =
        let here = are.each x (All-head (λ (b : ℕ). b < 256) x xs all) in
        let rest = summed xs (All-tail (λ (b : ℕ). b < 256) x xs all) in
        sum_by-cons (slice_index counts) x xs
        ∙ ap (λ (n : ℕ). n + counted counts xs) here
        ∙ ap (λ (n : ℕ). length (in_pieces (list_at places) x) + n) rest
        ∙ sym (sum_by-cons (λ (b : ℕ). length (in_pieces (list_at places) b)) x xs)

pub restart_is : (places : List (List ℕ)) (counts entries : List ℕ) (order : Order) (first : ℕ) →
    CountsPlaces places counts → All (λ (b : ℕ). b < 256) order.entries → entries ≡ order.entries →
    first ≡ min order.restart (length entries) →
    counted counts (take first entries) ≡ length (flat_map (in_pieces (list_at places)) (take order.restart
    order.entries))
restart_is places counts entries order first are small same is =
    let taken : take first entries ≡ take order.restart order.entries =
    ap (λ (k : ℕ). take k entries) is ∙ take_min order.restart entries ∙ ap (take order.restart) same in
    ap (counted counts) taken
    ∙ counted_is places counts (take order.restart order.entries) are
    (All-take (λ (b : ℕ). b < 256) order.restart order.entries small)

-- not more than stand for all of them
pub restart_low : (f : ℕ → List ℕ) (bytes : List ℕ) (n : ℕ) →
    length (flat_map f (take n bytes)) ≤ length (flat_map f bytes)
restart_low f bytes n =
    let whole = length-append (flat_map f (take n bytes)) (flat_map f (drop n bytes)) in
    let parts = ap length (sym (flat_map-append f (take n bytes) (drop n bytes))) in
    let all = ap (λ (xs : List ℕ). length (flat_map f xs)) (take-append-drop n bytes) in
    omega arith
