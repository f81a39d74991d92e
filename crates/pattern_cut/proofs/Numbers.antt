-- The pieces of a pattern, found under their numbers.
use Rattle.std.specs.Prelude.{nat_eq}
use Rattle.std.proofs.Common.{◌≡◌, ℕ, ◌<◌, ◌≤◌, Bool, true, false, List, [], ◌∷◌, length, get_or, All, Contains}
use Rattle.std.proofs.Common.{refl, sym, ap, ◌∙◌, arith, subst}
use Rattle.std.specs.List.{flat_map, range_with_len, position_or_len, list_any}
use Rattle.std.proofs.lemmas.List.{append-nil, length-map}
use Rattle.std.proofs.lemmas.List.Folds.{flat_map-map}
use Rattle.std.proofs.lemmas.List.Sums.{passes_at_first}
use Rattle.std.proofs.lemmas.List.Elements.{All-map}
use Rattle.std.specs.Cmp.{nat_eq_equiv}
use Rattle.std.proofs.lemmas.Map.Views.{list_any-from_Contains}
use Rattle.base.proofs.Laws.{filter_keeps, contains_map}
use Rattle.song_model.specs.declared.rows.Row.{Row}
use Rattle.song_model.specs.declared.orders.Order.{Order}
use Rattle.song_model.specs.declared.songs.Song.{Song}
use Rattle.song_model.specs.declared.patterns.TheConstants.{MOST_PATTERNS}
use Rattle.song_model.specs.Endless.{IsPatternByte}
use Rattle.song_model.specs.PatternLimits.{IsPattern}
use Rattle.song_model.specs.LookUp.{pattern_at}
use Rattle.play_model.specs.LookUps.{look_ups_of}
use Rattle.packing_rules.proofs.Laws.{place_there, first_seen_has}
use Rattle.pattern_cut.specs.Cuts.{ArePieces}
use Rattle.pattern_cut.specs.Pieces.{played_orders, is_named, named, is_repeated}
use Rattle.pattern_cut.specs.CutSongs.{Ways, pieces_of, same_rows, all_pieces, piece_numbers, cut_with}
use Rattle.pattern_cut.proofs.Lists.{within, of_map, flat_map_same, each_item, in_range, only}
use Rattle.pattern_cut.proofs.Slices.{slices_hold, slices_some, slices_are}
use Rattle.pattern_cut.proofs.RowTexts.{rows_same, rows_themselves}

-- ---- named patterns

pub is_in : (n : ℕ) (ns : List ℕ) → Contains ns n → list_any (nat_eq n) ns ≡ true
is_in n ns has = list_any-from_Contains nat_eq_equiv n ns has

pub named_there : (song : Song) (order : Order) (n : ℕ) → Contains (played_orders song) order → Contains order.entries n →
    IsPatternByte n → Contains (named song) n
unfolding named is_named
named_there song order n played has low =
    filter_keeps (is_named song) (range_with_len 0 MOST_PATTERNS) n (in_range MOST_PATTERNS n low)
    (is_in n (flat_map (λ (order : Order). order.entries) (played_orders song))
    (within (λ (order : Order). order.entries) (played_orders song) order n played has))

-- ---- pieces

pub pieces_hold : (song : Song) (ways : Ways) (n : ℕ) →
    flat_map (λ (piece : List Row). piece) (pieces_of song ways n) ≡ pattern_at song n
unfolding pieces_of
pieces_hold song ways n = by_repeat (is_repeated song n) refl
  where
    by_repeat : (b : Bool) → is_repeated song n ≡ b →
        flat_map (λ (piece : List Row). piece) (pieces_of song ways n) ≡ pattern_at song n
    by_repeat true e = rw e (append-nil (pattern_at song n))
    by_repeat false e = rw e (slices_hold _ (pattern_at song n))

pub pieces_some : (song : Song) (ways : Ways) (n : ℕ) → IsPattern (pattern_at song n) → 0 < length (pieces_of song ways n)
unfolding pieces_of
pieces_some song ways n is = by_repeat (is_repeated song n) refl
  where
    by_repeat : (b : Bool) → is_repeated song n ≡ b → 0 < length (pieces_of song ways n)
    by_repeat true e = rw e (omega arith)
    by_repeat false e = rw e (slices_some _ (pattern_at song n) is.count.least)

pub pieces_are : (song : Song) (ways : Ways) (n : ℕ) → IsPattern (pattern_at song n) → All IsPattern (pieces_of song ways n)
unfolding pieces_of
pieces_are song ways n is = by_repeat (is_repeated song n) refl
  where
    by_repeat : (b : Bool) → is_repeated song n ≡ b → All IsPattern (pieces_of song ways n)
    by_repeat true e =
        rw e (each_item IsPattern (pattern_at song n ∷ [])
        (λ rows has. subst IsPattern (only (pattern_at song n) rows has) is))
    by_repeat false e = rw e (slices_are _ (pattern_at song n) is.each)

-- ---- numbers

pub record IsFound (song : Song) (ways : Ways) (rows : List Row) : Type 0 where
  pub inside : position_or_len (same_rows rows) (all_pieces song ways) < length (all_pieces song ways)
  pub is : get_or (all_pieces song ways) (position_or_len (same_rows rows) (all_pieces song ways)) [] ≡ rows

pub piece_found : (song : Song) (ways : Ways) (n : ℕ) (rows : List Row) → Contains (named song) n →
    Contains (pieces_of song ways n) rows → IsFound song ways rows
unfolding all_pieces
piece_found song ways n rows named_is has =
    let inside = place_there (same_rows rows) (all_pieces song ways) there in
    record {
      inside = inside;
      is = sym (rows_same rows (get_or (all_pieces song ways) (position_or_len (same_rows rows) (all_pieces song ways)) [])
          (passes_at_first (same_rows rows) (all_pieces song ways) [] inside));
    }
  where
    there : list_any (same_rows rows) (all_pieces song ways) ≡ true
    there =
        first_seen_has same_rows rows_same rows_themselves (flat_map (pieces_of song ways) (named song)) rows
        (within (pieces_of song ways) (named song) n rows named_is has)

pub cut_pattern : (song : Song) (ways : Ways) (m : ℕ) → pattern_at (cut_with song ways) m ≡ get_or (all_pieces song ways) m []
unfolding pattern_at cut_with
cut_pattern song ways m = refl

-- the pieces of a pattern, under their numbers
pub are_pieces : (song : Song) (ways : Ways) (n : ℕ) → Contains (named song) n → IsPattern (pattern_at song n) →
    length (all_pieces song ways) ≤ MOST_PATTERNS →
    ArePieces (look_ups_of song) (look_ups_of (cut_with song ways)) n (piece_numbers song ways n)
unfolding piece_numbers
are_pieces song ways n named_is is fits = record {
  some = subst (λ (k : ℕ). 0 < k) (sym (length-map (pieces_of song ways n) place)) (pieces_some song ways n is);
  numbers = All-map IsPatternByte place (pieces_of song ways n)
      (each_item (λ rows. IsPatternByte (place rows)) (pieces_of song ways n)
      (λ rows has. let found = (piece_found song ways n rows named_is has).inside in omega (arith, found, fits)));
  rows =
      flat_map-map (pattern_at (cut_with song ways)) place (pieces_of song ways n)
      ∙ flat_map_same (λ rows. pattern_at (cut_with song ways) (place rows)) (λ rows. rows) (pieces_of song ways n)
      (each_item (λ rows. pattern_at (cut_with song ways) (place rows) ≡ rows) (pieces_of song ways n)
      (λ rows has. cut_pattern song ways (place rows) ∙ (piece_found song ways n rows named_is has).is))
      ∙ pieces_hold song ways n;
}
  where
    place : List Row → ℕ
    place rows = position_or_len (same_rows rows) (all_pieces song ways)

-- ---- one piece and its number

abbrev pub place_of : Song → Ways → List Row → ℕ
place_of song ways rows = position_or_len (same_rows rows) (all_pieces song ways)

pub number_of_piece : (song : Song) (ways : Ways) (n : ℕ) (rows : List Row) → Contains (pieces_of song ways n) rows →
    Contains (piece_numbers song ways n) (place_of song ways rows)
unfolding piece_numbers
number_of_piece song ways n rows has = contains_map (place_of song ways) (pieces_of song ways n) rows has

pub piece_of_number : (song : Song) (ways : Ways) (n m : ℕ) → Contains (named song) n →
    Contains (piece_numbers song ways n) m → Contains (pieces_of song ways n) (pattern_at (cut_with song ways) m)
unfolding piece_numbers
piece_of_number song ways n m named_is has =
    let from = of_map (place_of song ways) (pieces_of song ways n) m has in
    subst (λ rows. Contains (pieces_of song ways n) rows)
    (sym (piece_found song ways n from.item named_is from.there).is
    ∙ sym (cut_pattern song ways (place_of song ways from.item)) ∙ ap (pattern_at (cut_with song ways)) from.is) from.there
