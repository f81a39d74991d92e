-- Where pieces stand among the patterns of a song that is cut, and orderlists that name them.
use Rattle.std.specs.Prelude.{◌≡◌, ℕ, ◌<◌, List, length, map, nat_eq, slice_index}
use Rattle.std.specs.List.{flat_map, position_or_len}
use Rattle.song_model.specs.declared.orders.Order.{Order}
use Rattle.song_model.specs.declared.orders.Subtune.{Subtune}
use Rattle.song_model.specs.declared.patterns.TheConstants.{MOST_PATTERNS}
use Rattle.song_model.specs.OrderLimits.{AreEntries}
use Rattle.pattern_cut.specs.Cuts.{in_pieces}
use Rattle.pattern_cut.specs.CutSongs.{Ways}
use Rattle.song_cut.specs.declared.table.PieceTable.{PieceTable}
use Rattle.song_cut.specs.Tables.{list_at, way_numbers}

-- the pieces of each pattern stand at these places among the patterns
pub record ArePlaces (table : PieceTable) (ways : Ways) (order : List ℕ) (places : List (List ℕ)) : Type 0 where
  pub count : length places ≡ MOST_PATTERNS
  pub each : (p : ℕ) → p < MOST_PATTERNS →
      list_at places p ≡ map (λ k. position_or_len (nat_eq k) order) (way_numbers table ways p)

-- how many bytes stand for each byte
pub record CountsPlaces (places : List (List ℕ)) (counts : List ℕ) : Type 0 where
  pub count : length places ≡ MOST_PATTERNS
  pub each : (b : ℕ) → b < 256 → slice_index counts b ≡ length (in_pieces (list_at places) b)

-- the orderlist that names the pieces isn't longer than one may be
pub record IsCuttable (places : List (List ℕ)) (order : Order) : Type 0 where
  pub entries : AreEntries (flat_map (in_pieces (list_at places)) order.entries)

pub record IsCuttableSubtune (places : List (List ℕ)) (subtune : Subtune) : Type 0 where
  pub one : IsCuttable places subtune.one
  pub two : IsCuttable places subtune.two
  pub three : IsCuttable places subtune.three
