-- Patterns in pieces: the orderlist that names them, and claimed: that it has the same rows, as lists.
use Rattle.std.specs.Prelude.{◌≡◌, ℕ, ◌<◌, List, [], ◌∷◌, length, take, drop, All, if◌then◌else◌, nat_lt}
use Rattle.std.specs.List.{flat_map}
use Rattle.song_model.specs.declared.orders.Order.{Order}
use Rattle.song_model.specs.Endless.{IsPatternByte}
use Rattle.song_model.specs.Walk.{repeat_after, end_repeat}
use Rattle.play_model.specs.LookUps.{LookUps}
use Rattle.same_frames.specs.RowLists.{HasSameRowLists}

-- these patterns hold the rows of pattern n, one behind the other
pub record ArePieces (look other : LookUps) (n : ℕ) (pieces : List ℕ) : Type 0 where
  pub some : 0 < length pieces
  pub numbers : All IsPatternByte pieces
  pub rows : flat_map other.rows pieces ≡ look.rows n

-- what stands for a byte of an orderlist: the pieces of a pattern, a repeat and a transpose themselves
abbrev pub in_pieces : (ℕ → List ℕ) → ℕ → List ℕ
in_pieces pieces byte = if nat_lt byte 0xD0 then pieces byte else byte ∷ []

-- the orderlist that names the pieces, from the piece on with which the pattern at the restart position begins
abbrev pub cut_order : (ℕ → List ℕ) → Order → Order
cut_order pieces order = record {
  entries = flat_map (in_pieces pieces) order.entries;
  restart = length (flat_map (in_pieces pieces) (take order.restart order.entries));
}

-- a walk along these bytes, begun with this repeat, repeats no pattern that is in several pieces
abbrev pub RepeatsWhole : (ℕ → List ℕ) → List ℕ → ℕ → Type 0
RepeatsWhole pieces [] repeat = Unit {0}
RepeatsWhole pieces (byte ∷ bytes) repeat =
    (IsPatternByte byte → 0 < repeat → length (pieces byte) ≡ 1) × RepeatsWhole pieces bytes (repeat_after byte repeat)

-- the patterns that the orderlist names are in pieces, but those that it repeats
pub record IsCutFor (look other : LookUps) (pieces : ℕ → List ℕ) (order : Order) : Type 0 where
  pub pieces_of : All (λ (byte : ℕ). IsPatternByte byte → ArePieces look other byte (pieces byte)) order.entries
  pub prefix : RepeatsWhole pieces order.entries 0
  pub cycle : RepeatsWhole pieces (drop order.restart order.entries) (end_repeat order.entries 0)

-- the entries before the restart position have the same rows, and those from it on
abbrev pub CutOrdersHaveSameRowLists : Type 0
CutOrdersHaveSameRowLists =
    (look other : LookUps) (pieces : ℕ → List ℕ) (order : Order) → IsCutFor look other pieces order →
    HasSameRowLists look other order (cut_order pieces order)
