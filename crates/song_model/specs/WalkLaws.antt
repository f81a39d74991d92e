-- What a reader may rely on in the walk along an orderlist.
use Rattle.std.specs.Prelude.{◌≡◌, ℕ, ◌<◌, ℤ, pos, negsuc, ◌≤ℤ◌, length, drop, All, Contains}
use Rattle.song_model.specs.declared.orders.Order.{Order}
use Rattle.song_model.specs.declared.orders.Step.{Step}
use Rattle.song_model.specs.OrderLimits.{IsEntry}
use Rattle.song_model.specs.Endless.{IsPatternByte, IsEndless}
use Rattle.song_model.specs.Walk.{end_transpose, end_repeat, cycle_of, played}

-- each play names an entry of its orderlist, where a pattern stands from the restart position on
abbrev pub PlaysAreEntries : Type 0
PlaysAreEntries =
    (order : Order) (i : ℕ) → 0 < length (cycle_of order) →
    Contains order.entries (played order i).pattern

-- a play of a pattern that the orderlist names
pub record PlaysAPattern (order : Order) (play : Step) : Type 0 where
  pub entry : Contains order.entries play.pattern
  pub pattern : IsPatternByte play.pattern

-- each play of a walk that never ends is one
abbrev pub PlaysArePatterns : Type 0
PlaysArePatterns = (order : Order) (i : ℕ) → IsEndless order → PlaysAPattern order (played order i)

-- from 16 half tones down to 14 up
pub record IsTranspose (transpose : ℤ) : Type 0 where
  pub least : negsuc 15 ≤ℤ transpose
  pub most : transpose ≤ℤ pos 14

-- each play of an orderlist of entries has such a transpose, whatever the orderlist's length
abbrev pub TransposesAreInRange : Type 0
TransposesAreInRange =
    (order : Order) (i : ℕ) → All IsEntry order.entries → IsTranspose (played order i).transpose

-- the cycle ends with the transpose and the repeat with which it began
pub record EndsAsItBegan (order : Order) : Type 0 where
  pub transpose :
      end_transpose (drop order.restart order.entries) (end_transpose order.entries (pos 0))
      ≡ end_transpose order.entries (pos 0)
  pub repeat :
      end_repeat (drop order.restart order.entries) (end_repeat order.entries 0)
      ≡ end_repeat order.entries 0

-- so the second round is like the first, and each later one
abbrev pub OneCycleIsEnough : Type 0
OneCycleIsEnough = (order : Order) → EndsAsItBegan order
