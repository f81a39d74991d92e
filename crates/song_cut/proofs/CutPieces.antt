-- The pieces of a song that is cut, by their numbers in the table.
use Rattle.std.specs.Prelude.{slice_index_or}
use Rattle.std.proofs.Common.{◌≡◌, ℕ, ◌<◌, Bool, true, false, List, [], ◌∷◌, ◌++◌, length, map, nat_eq}
use Rattle.std.proofs.Common.{All, refl, sym, ◌∙◌, ap, subst, inl, inr, arith}
use Rattle.std.specs.List.{flat_map, filter, range_with_len, position_or_len, sum_by}
use Rattle.std.specs.Str.{bytes_eq}
use Rattle.std.proofs.lemmas.Bool.{cases_eq, eq-eqb, ne_eqb, false_from_ne_true}
use Rattle.std.proofs.lemmas.List.{length-map, map-append}
use Rattle.std.proofs.lemmas.List.FromFn.{get_or-range_with_len, length-range_with_len}
use Rattle.std.proofs.lemmas.List.Elements.{All-head, All-tail, All-nil, All-append}
use Rattle.song_model.specs.declared.rows.Row.{Row}
use Rattle.song_model.specs.declared.songs.Song.{Song}
use Rattle.song_model.specs.declared.patterns.TheConstants.{MOST_PATTERNS}
use Rattle.packing_rules.specs.Renumbering.{first_seen}
use Rattle.packing_rules.proofs.Laws.{first_seen_all}
use Rattle.pattern_cut.specs.declared.lengths.PieceLength.{PieceLength}
use Rattle.pattern_cut.specs.declared.lengths.PieceLength.TheVariants.{Whole}
use Rattle.pattern_cut.specs.Pieces.{is_named, named}
use Rattle.pattern_cut.specs.CutSongs.{Ways, pieces_of, same_rows, all_pieces, piece_numbers}
use Rattle.pattern_cut.specs.Choice.{pattern_weight}
use Rattle.song_cut.specs.declared.collecting.Piece.{Piece}
use Rattle.song_cut.specs.declared.table.PieceTable.{PieceTable}
use Rattle.song_cut.specs.Marks.{is_marked}
use Rattle.song_cut.specs.Numbers.{text_of, no_piece, rows_at, weight_at, AreNumbersOf}
use Rattle.song_cut.specs.Tables.{pieces_with, way_numbers, named_numbers, numbers_below, all_numbers, IsTableOf}
use Rattle.song_cut.specs.Seen.{gathered}
use Rattle.song_cut.proofs.AddedPieces.{same_text, text_itself}
use Rattle.song_cut.proofs.Gathering.{gathered_are}
use Rattle.song_cut.proofs.SeenMaps.{map_alike, sum_alike, sum_of_map, map_of_map, first_seen_map, place_alike}

abbrev size_at : Ways → ℕ → PieceLength
size_at ways n = slice_index_or ways n Whole

abbrev pub IsInside : List Piece → ℕ → Type 0
IsInside pieces k = k < length pieces

-- ---- one pattern

pub numbers_are : (song : Song) (table : PieceTable) (ways : Ways) → IsTableOf song table → (n : ℕ) →
    n < MOST_PATTERNS → is_named song n ≡ true →
    AreNumbersOf table.pieces.items (pieces_of song ways n) (way_numbers table ways n)
unfolding pieces_of pieces_with
numbers_are song table ways of n low is = (of.numbers (size_at ways n)).each n low is

-- ---- all named patterns

-- pieces of some patterns, and their numbers
below_are : (song : Song) (table : PieceTable) (ways : Ways) → IsTableOf song table → (ns : List ℕ) →
    All (λ (n : ℕ). n < MOST_PATTERNS) ns →
    AreNumbersOf table.pieces.items (flat_map (pieces_of song ways) (filter (is_named song) ns))
    (flat_map (named_numbers table ways) ns)
below_are song table ways of [] low = record { inside = All-nil (IsInside table.pieces.items); are = refl }
below_are song table ways of (n ∷ ns) low =
    by_name (below_are song table ways of ns (All-tail (λ (k : ℕ). k < MOST_PATTERNS) n ns low)) (is_named song n) refl
  where
    inside_list : n < MOST_PATTERNS
    inside_list = All-head (λ (k : ℕ). k < MOST_PATTERNS) n ns low

    marked : is_marked table.named n ≡ is_named song n
    marked = of.named.each n (let l = inside_list in omega arith)

    by_name : AreNumbersOf table.pieces.items (flat_map (pieces_of song ways) (filter (is_named song) ns))
        (flat_map (named_numbers table ways) ns) →
        (b : Bool) → is_named song n ≡ b →
        AreNumbersOf table.pieces.items (flat_map (pieces_of song ways) (filter (is_named song) (n ∷ ns)))
        (flat_map (named_numbers table ways) (n ∷ ns))
    by_name rest true is =
        let here = numbers_are song table ways of n inside_list is in
        let m : is_marked table.named n ≡ true = marked ∙ is in
        rw (is, m) (record {
          inside = All-append (IsInside table.pieces.items) (way_numbers table ways n) (flat_map (named_numbers table
              ways) ns)
              here.inside rest.inside;
          are =
              map-append (rows_at table.pieces.items) (way_numbers table ways n) (flat_map (named_numbers table ways)
              ns)
              ∙ ap (λ (rs : List (List Row)). rs ++ map (rows_at table.pieces.items) (flat_map (named_numbers table
              ways) ns))
              here.are
              ∙ ap (λ (rs : List (List Row)). pieces_of song ways n ++ rs) rest.are;
        })
    by_name rest false is =
        let m : is_marked table.named n ≡ false = marked ∙ is in
        rw (is, m) rest

pub all_are : (song : Song) (table : PieceTable) (ways : Ways) → IsTableOf song table →
    AreNumbersOf table.pieces.items (flat_map (pieces_of song ways) (named song)) (all_numbers table ways)
unfolding named numbers_below
all_are song table ways of = below_are song table ways of (range_with_len 0 MOST_PATTERNS) low
  where
    low : All (λ (n : ℕ). n < MOST_PATTERNS) (range_with_len 0 MOST_PATTERNS)
    low = λ i d inside.
        let count = length-range_with_len 0 MOST_PATTERNS in
        let is = get_or-range_with_len 0 MOST_PATTERNS i d (omega arith) in
        omega arith

-- ---- each once

pub same_as_numbers : (song : Song) (table : PieceTable) → IsTableOf song table → (j k : ℕ) →
    IsInside table.pieces.items j → IsInside table.pieces.items k →
    same_rows (rows_at table.pieces.items j) (rows_at table.pieces.items k) ≡ nat_eq j k
same_as_numbers song table of j k j_in k_in = elim (cases_eq j k) [
  | inl same ↦
      rw (eq-eqb j k same)
      (ap (λ (i : ℕ). bytes_eq (text_of (rows_at table.pieces.items j)) (text_of (rows_at table.pieces.items i))) (sym
      same)
      ∙ text_itself (text_of (rows_at table.pieces.items j)))
  | inr other ↦
      rw (ne_eqb j k other)
      (false_from_ne_true _ (λ same. other (of.once.apart j k j_in k_in (same_text _ _ same))))
]

-- the numbers of the pieces of the song that is cut, in their order
abbrev pub distinct : PieceTable → Ways → List ℕ
distinct table ways = gathered [] (all_numbers table ways)

pub distinct_inside : (song : Song) (table : PieceTable) (ways : Ways) → IsTableOf song table →
    All (IsInside table.pieces.items) (distinct table ways)
distinct_inside song table ways of =
    subst (All (IsInside table.pieces.items)) (sym (gathered_are (all_numbers table ways)))
    (first_seen_all (IsInside table.pieces.items) nat_eq (all_numbers table ways) (all_are song table ways of).inside)

pub all_pieces_are : (song : Song) (table : PieceTable) (ways : Ways) → IsTableOf song table →
    all_pieces song ways ≡ map (rows_at table.pieces.items) (distinct table ways)
unfolding all_pieces
all_pieces_are song table ways of =
    let all = all_are song table ways of in
    ap (first_seen same_rows) (sym all.are)
    ∙ first_seen_map (IsInside table.pieces.items) (rows_at table.pieces.items) nat_eq same_rows (all_numbers table
    ways)
    all.inside (same_as_numbers song table of)
    ∙ ap (map (rows_at table.pieces.items)) (sym (gathered_are (all_numbers table ways)))

pub pieces_count : (song : Song) (table : PieceTable) (ways : Ways) → IsTableOf song table →
    length (all_pieces song ways) ≡ length (distinct table ways)
pieces_count song table ways of =
    ap length (all_pieces_are song table ways of) ∙ length-map (distinct table ways) (rows_at table.pieces.items)

pub pieces_weigh : (song : Song) (table : PieceTable) (ways : Ways) → IsTableOf song table →
    sum_by pattern_weight (all_pieces song ways) ≡ sum_by (weight_at table.pieces.items) (distinct table ways)
pieces_weigh song table ways of =
    ap (sum_by pattern_weight) (all_pieces_are song table ways of)
    ∙ sum_of_map pattern_weight (rows_at table.pieces.items) (distinct table ways)
    ∙ sum_alike (IsInside table.pieces.items) (λ k. pattern_weight (rows_at table.pieces.items k))
    (weight_at table.pieces.items) (distinct table ways) (distinct_inside song table ways of)
    (λ k inside. sym (of.once.weighed k no_piece inside).is)

-- ---- where the pieces of a pattern stand

abbrev pub places_in : List ℕ → List ℕ → List ℕ
places_in order numbers = map (λ k. position_or_len (nat_eq k) order) numbers

pub piece_numbers_are : (song : Song) (table : PieceTable) (ways : Ways) → IsTableOf song table → (n : ℕ) →
    n < MOST_PATTERNS → is_named song n ≡ true →
    piece_numbers song ways n ≡ places_in (distinct table ways) (way_numbers table ways n)
unfolding piece_numbers
piece_numbers_are song table ways of n low is =
    let are = numbers_are song table ways of n low is in
    ap (map (λ rows. position_or_len (same_rows rows) (all_pieces song ways))) (sym are.are)
    ∙ map_of_map (λ rows. position_or_len (same_rows rows) (all_pieces song ways)) (rows_at table.pieces.items)
    (way_numbers table ways n)
    ∙ map_alike (IsInside table.pieces.items) _ (λ k. position_or_len (nat_eq k) (distinct table ways))
    (way_numbers table ways n) are.inside
    (λ k inside.
    ap (position_or_len (same_rows (rows_at table.pieces.items k))) (all_pieces_are song table ways of)
    ∙ place_alike (IsInside table.pieces.items) (rows_at table.pieces.items) (same_rows (rows_at table.pieces.items k))
    (nat_eq k) (distinct table ways) (distinct_inside song table ways of)
    (λ j j_in. same_as_numbers song table of k j inside j_in))
