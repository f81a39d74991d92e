-- What a song weighs that is cut, and whether it fits.
use Rattle.std.proofs.Common.{
  ◌≡◌,
  ℕ,
  ◌+◌,
  ◌<◌,
  ◌≤◌,
  ◌&&◌,
  Bool,
  true,
  false,
  List,
  length,
  nat_le,
  All,
  refl,
  sym,
  ◌∙◌,
  ap,
  subst,
}
use Rattle.std.proofs.Math.Bool.{and-false}
use Rattle.std.specs.List.{list_all, sum_by}
use Rattle.std.proofs.lemmas.Bool.{lt-leb, le-leb, leb-true, and_parts}
use Rattle.song_model.specs.declared.orders.Order.{Order}
use Rattle.song_model.specs.declared.songs.Song.{Song}
use Rattle.song_model.specs.declared.orders.TheConstants.{MOST_ENTRIES}
use Rattle.song_model.specs.declared.patterns.TheConstants.{MOST_PATTERNS}
use Rattle.song_model.specs.Limits.{KeepsLimits}
use Rattle.pattern_cut.specs.Pieces.{played_orders}
use Rattle.pattern_cut.specs.CutSongs.{Ways, cut_with, all_pieces}
use Rattle.pattern_cut.specs.Choice.{all_orders, fits, pattern_weight, too_heavy, weight, cut_weight}
use Rattle.song_cut.specs.declared.table.PieceTable.{PieceTable}
use Rattle.song_cut.specs.Numbers.{weight_at}
use Rattle.song_cut.specs.Tables.{IsTableOf}
use Rattle.song_cut.specs.Orders.{AreCounts, counted, fits_in}
use Rattle.song_cut.proofs.CutPieces.{IsInside, distinct, distinct_inside, pieces_count, pieces_weigh}
use Rattle.song_cut.proofs.CutOrders.{orders_weigh, orders_fit}

-- ---- whether it fits

fits_are : (song : Song) (table : PieceTable) (ways : Ways) → IsTableOf song table →
    fits (cut_with song ways) ≡ (nat_le (length (distinct table ways)) MOST_PATTERNS
    && list_all (λ order. nat_le (length order.entries) MOST_ENTRIES) (all_orders (cut_with song ways)))
unfolding cut_with
fits_are song table ways of =
    ap (λ (n : ℕ). nat_le n MOST_PATTERNS
    && list_all (λ order. nat_le (length order.entries) MOST_ENTRIES) (all_orders (cut_with song ways)))
    (pieces_count song table ways of)

pub few_that_fit : (song : Song) (table : PieceTable) (ways : Ways) → IsTableOf song table →
    fits (cut_with song ways) ≡ true → length (distinct table ways) ≤ MOST_PATTERNS
few_that_fit song table ways of fit =
    leb-true (length (distinct table ways)) MOST_PATTERNS (and_parts _ _ (sym (fits_are song table ways of) ∙ fit)).0

pub short_that_fit : (song : Song) (table : PieceTable) (ways : Ways) → IsTableOf song table →
    fits (cut_with song ways) ≡ true →
    list_all (λ order. nat_le (length order.entries) MOST_ENTRIES) (all_orders (cut_with song ways)) ≡ true
short_that_fit song table ways of fit = (and_parts _ _ (sym (fits_are song table ways of) ∙ fit)).1

-- ---- what it weighs

too_heavy_is : (song : Song) (ways : Ways) → fits (cut_with song ways) ≡ false → too_heavy ≡ cut_weight song ways
unfolding weight
too_heavy_is song ways fails = rw fails refl

weight_is : (song : Song) (ways : Ways) → fits (cut_with song ways) ≡ true →
    cut_weight song ways ≡ sum_by (λ order. length order.entries) (all_orders (cut_with song ways))
    + sum_by pattern_weight (all_pieces song ways)
unfolding weight cut_with
weight_is song ways fit = rw fit refl

pub many_are_heavy : (song : Song) (table : PieceTable) (ways : Ways) → IsTableOf song table →
    MOST_PATTERNS < length (distinct table ways) → too_heavy ≡ cut_weight song ways
many_are_heavy song table ways of many =
    too_heavy_is song ways (fits_are song table ways of
    ∙ ap (λ (b : Bool). b && list_all (λ (order : Order). nat_le (length order.entries) MOST_ENTRIES) (all_orders
    (cut_with song ways)))
    (lt-leb (length (distinct table ways)) MOST_PATTERNS many))

pub long_are_heavy : (song : Song) (table : PieceTable) (ways : Ways) (counts : List ℕ) → KeepsLimits song →
    IsTableOf song table → AreCounts table ways counts → list_all (fits_in counts) (played_orders song) ≡ false →
    too_heavy ≡ cut_weight song ways
long_are_heavy song table ways counts limits of are long =
    too_heavy_is song ways (fits_are song table ways of
    ∙ ap (λ (b : Bool). nat_le (length (distinct table ways)) MOST_PATTERNS && b)
    (orders_fit song table ways counts limits of are ∙ long)
    ∙ and-false (nat_le (length (distinct table ways)) MOST_PATTERNS))

pub others_weigh : (song : Song) (table : PieceTable) (ways : Ways) (counts order : List ℕ) (orders pieces : ℕ) →
    KeepsLimits song → IsTableOf song table → AreCounts table ways counts →
    order ≡ distinct table ways → length order ≤ MOST_PATTERNS →
    list_all (fits_in counts) (played_orders song) ≡ true →
    orders ≡ sum_by (λ o. counted counts o.entries) (played_orders song) →
    pieces ≡ sum_by (weight_at table.pieces.items) order → orders + pieces ≡ cut_weight song ways
others_weigh song table ways counts order orders pieces limits of are order_is few short orders_are pieces_are =
    ap (λ (n : ℕ). n + pieces) (orders_are ∙ sym (orders_weigh song table ways counts limits of are))
    ∙ ap (λ (n : ℕ). sum_by (λ (o : Order). length o.entries) (all_orders (cut_with song ways)) + n)
    (pieces_are ∙ ap (sum_by (weight_at table.pieces.items)) order_is ∙ sym (pieces_weigh song table ways of))
    ∙ sym (weight_is song ways fit)
  where
    fit : fits (cut_with song ways) ≡ true
    fit =
        fits_are song table ways of
        ∙ ap (λ (b : Bool). b && list_all (λ (o : Order). nat_le (length o.entries) MOST_ENTRIES) (all_orders
        (cut_with song ways)))
        (le-leb (length (distinct table ways)) MOST_PATTERNS (subst (λ (ns : List ℕ). length ns ≤ MOST_PATTERNS)
        order_is few))
        ∙ orders_fit song table ways counts limits of are ∙ short

pub order_inside : (song : Song) (table : PieceTable) (ways : Ways) (order : List ℕ) → IsTableOf song table →
    order ≡ distinct table ways → All (IsInside table.pieces.items) order
order_inside song table ways order of is =
    subst (All (IsInside table.pieces.items)) (sym is) (distinct_inside song table ways of)
