-- The lengths of orderlists that name pieces.
use Rattle.std.specs.Prelude.{◌≡◌, ℕ, ◌+◌, ◌<◌, ◌≤◌, ◌&&◌, Bool, nat_le, List, length, slice_index}
use Rattle.std.specs.List.{fold, sum_by}
use Rattle.song_model.specs.declared.orders.Order.{Order}
use Rattle.song_model.specs.declared.orders.TheConstants.{MOST_ENTRIES}
use Rattle.song_model.specs.declared.patterns.TheConstants.{MOST_PATTERNS}
use Rattle.pattern_cut.specs.CutSongs.{Ways}
use Rattle.song_cut.specs.declared.orders.OrderLengths.{OrderLengths}
use Rattle.song_cut.specs.declared.table.PieceTable.{PieceTable}
use Rattle.song_cut.specs.Tables.{way_numbers}

-- as many stand for a byte as a pattern has pieces, and one for any other byte
pub record AreCounts (table : PieceTable) (ways : Ways) (counts : List ℕ) : Type 0 where
  pub patterns : (p : ℕ) → p < MOST_PATTERNS → slice_index counts p ≡ length (way_numbers table ways p)
  pub others : (b : ℕ) → MOST_PATTERNS ≤ b → b < 256 → slice_index counts b ≡ 1

-- how many bytes stand for those of an orderlist
abbrev pub counted : List ℕ → List ℕ → ℕ
counted counts bytes = sum_by (slice_index counts) bytes

-- they aren't more than an orderlist may have
abbrev pub fits_in : List ℕ → Order → Bool
fits_in counts order = nat_le (counted counts order.entries) MOST_ENTRIES

-- lengths with that of one more orderlist
unfoldable pub added : List ℕ → OrderLengths → Order → OrderLengths
added counts lengths order = record {
  fit = lengths.fit && fits_in counts order;
  sum = lengths.sum + counted counts order.entries;
}

-- with those of some more
unfoldable pub all_added : List ℕ → OrderLengths → List Order → OrderLengths
all_added counts lengths orders = fold (added counts) lengths orders
