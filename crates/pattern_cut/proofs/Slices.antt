-- The pieces of a pattern hold its rows, one behind the other, and each is a pattern.
use Rattle.std.proofs.Common.{◌≡◌, ℕ, zero, suc, ◌+◌, ◌-◌, ◌*◌, ◌/◌, ◌<◌, ◌≤◌, List, [], ◌∷◌, ◌++◌, map, length, take, drop}
use Rattle.std.proofs.Common.{All, sym, ap, ◌∙◌, arith}
use Rattle.std.specs.List.{flat_map, range_with_len}
use Rattle.std.proofs.lemmas.List.{take_all, drop-drop, length-take, length-drop, length-map}
use Rattle.std.proofs.lemmas.List.FromFn.{length-range_with_len}
use Rattle.std.proofs.lemmas.List.Elements.{All-map, All-take, All-drop}
use Rattle.song_model.specs.declared.rows.Row.{Row}
use Rattle.song_model.specs.PatternLimits.{IsRow, IsPattern}
use Rattle.pattern_cut.specs.declared.lengths.PieceLength.{PieceLength}
use Rattle.pattern_cut.specs.declared.lengths.PieceLength.TheVariants.{Whole, Rows64, Rows32, Rows16, Rows8}
use Rattle.pattern_cut.specs.Pieces.{rows_of, slice, slices}
use Rattle.pattern_cut.proofs.Lists.{each_item, below}

-- ---- rows

-- some items, and some of those behind them
take_both : {X : Type 0} (n m : ℕ) (xs : List X) → take n xs ++ take m (drop n xs) ≡ take (n + m) xs
take_both {X} zero m xs = ap (λ (k : ℕ). take k xs) (let e : m ≡ 0 + m = omega arith in e)
take_both {X} (suc n) m [] =
    take_all m [] (omega arith) ∙ ap (λ (k : ℕ). take {A = X} k []) (let e : suc (n + m) ≡ suc n + m = omega arith in e)
take_both {X} (suc n) m (x ∷ xs) =
    ap (λ (ys : List X). x ∷ ys) (take_both n m xs)
    ∙ ap (λ (k : ℕ). take k (x ∷ xs)) (let e : suc (n + m) ≡ suc n + m = omega arith in e)

rows_from : (n a k : ℕ) (rows : List Row) →
    flat_map (λ (piece : List Row). piece) (map (slice n rows) (range_with_len a k)) ≡ take (k * n) (drop (a * n) rows)
rows_from n a zero rows = ap (λ (m : ℕ). take m (drop (a * n) rows)) (let e : 0 ≡ 0 * n = omega arith in e)
rows_from n a (suc k) rows =
    ap (λ (rs : List Row). slice n rows a ++ rs)
    (rows_from n (a + 1) k rows
    ∙ ap (λ (m : ℕ). take (k * n) (drop m rows)) next
    ∙ ap (take (k * n)) (sym (drop-drop n (a * n) rows)))
    ∙ take_both n (k * n) (drop (a * n) rows)
    ∙ ap (λ (m : ℕ). take m (drop (a * n) rows)) count
  where
    next : (a + 1) * n ≡ a * n + n
    next = grind arith

    count : n + k * n ≡ suc k * n
    count = grind arith

-- enough of them hold all rows
rows_fill : (l : PieceLength) (count : ℕ) → count ≤ (count + (rows_of l - 1)) / rows_of l * rows_of l
rows_fill Whole count = omega arith
rows_fill Rows64 count = omega arith
rows_fill Rows32 count = omega arith
rows_fill Rows16 count = omega arith
rows_fill Rows8 count = omega arith

pub slices_hold : (l : PieceLength) (rows : List Row) →
    flat_map (λ (piece : List Row). piece) (slices (rows_of l) rows) ≡ rows
slices_hold l rows =
    rows_from (rows_of l) 0 ((length rows + (rows_of l - 1)) / rows_of l) rows
    ∙ ap (λ (m : ℕ). take ((length rows + (rows_of l - 1)) / rows_of l * rows_of l) (drop m rows))
    (let e : 0 * rows_of l ≡ 0 = omega arith in e)
    ∙ take_all ((length rows + (rows_of l - 1)) / rows_of l * rows_of l) rows (rows_fill l (length rows))

-- ---- patterns

-- there is a piece
some_piece : (l : PieceLength) (count : ℕ) → 1 ≤ count → 1 ≤ (count + (rows_of l - 1)) / rows_of l
some_piece Whole count some = omega arith
some_piece Rows64 count some = omega arith
some_piece Rows32 count some = omega arith
some_piece Rows16 count some = omega arith
some_piece Rows8 count some = omega arith

pub slices_some : (l : PieceLength) (rows : List Row) → 1 ≤ length rows → 0 < length (slices (rows_of l) rows)
slices_some l rows some =
    let pieces = (length rows + (rows_of l - 1)) / rows_of l in
    let there = some_piece l (length rows) some in
    let count = length-map (range_with_len 0 pieces) (slice (rows_of l) rows) ∙ length-range_with_len 0 pieces in
    omega (arith, there, count)

-- each has a row, and at most 128
begins_inside : (l : PieceLength) (count i : ℕ) → i < (count + (rows_of l - 1)) / rows_of l → i * rows_of l < count
begins_inside Whole count i low = omega arith
begins_inside Rows64 count i low = omega arith
begins_inside Rows32 count i low = omega arith
begins_inside Rows16 count i low = omega arith
begins_inside Rows8 count i low = omega arith

most_rows : (l : PieceLength) → (1 ≤ rows_of l) × (rows_of l ≤ 128)
most_rows Whole = (omega arith, omega arith)
most_rows Rows64 = (omega arith, omega arith)
most_rows Rows32 = (omega arith, omega arith)
most_rows Rows16 = (omega arith, omega arith)
most_rows Rows8 = (omega arith, omega arith)

slice_is : (l : PieceLength) (rows : List Row) (i : ℕ) → i < (length rows + (rows_of l - 1)) / rows_of l → All IsRow rows →
    IsPattern (slice (rows_of l) rows i)
slice_is l rows i low each = record {
  count =
      let rest = length-drop (i * rows_of l) rows in
      let taken = length-take (rows_of l) (drop (i * rows_of l) rows) in
      let inside = begins_inside l (length rows) i low in
      let most = most_rows l in
      rw taken (rw rest (record { least = grind (arith, most.0); most = grind (arith, most.1) }));
  each = All-take IsRow (rows_of l) (drop (i * rows_of l) rows) (All-drop IsRow (i * rows_of l) rows each);
}

pub slices_are : (l : PieceLength) (rows : List Row) → All IsRow rows → All IsPattern (slices (rows_of l) rows)
slices_are l rows each =
    let pieces = (length rows + (rows_of l - 1)) / rows_of l in
    All-map IsPattern (slice (rows_of l) rows) (range_with_len 0 pieces)
    (each_item (λ i. IsPattern (slice (rows_of l) rows i)) (range_with_len 0 pieces)
    (λ i has. slice_is l rows i (below pieces i has) each))
