-- An orderlist with new numbers for its patterns plays these patterns.
use Rattle.std.specs.Prelude.{ℕ, if◌then◌else◌, nat_lt, map, Contains}
use Rattle.song_model.specs.declared.orders.Order.{Order}
use Rattle.song_model.specs.declared.orders.Subtune.{Subtune}
use Rattle.song_model.specs.LookUp.{order_of}
use Rattle.song_model.specs.Endless.{IsPatternByte, IsEndless}
use Rattle.play_model.specs.Used.{IsChannel}
use Rattle.same_frames.specs.Maps.{Maps}
use Rattle.same_frames.specs.Agreement.{PlaysFor, SubtunePlaysFor, AddsNoOrderByte}

-- a byte below $D0 is the number of a pattern; repeats and transposes stay
abbrev pub moved_byte : Maps → ℕ → ℕ
moved_byte maps byte = if nat_lt byte 0xD0 then maps.pattern byte else byte

abbrev pub moved_order : Maps → Order → Order
moved_order maps order = record order { entries = map (moved_byte maps) order.entries }

-- the new number of each pattern that the orderlist names is a pattern's number
abbrev pub KeepsPatternBytes : Maps → Order → Type 0
KeepsPatternBytes maps order =
    (byte : ℕ) → Contains order.entries byte → IsPatternByte byte → IsPatternByte (maps.pattern byte)

abbrev pub MovedOrdersPlayFor : Type 0
MovedOrdersPlayFor =
    (maps : Maps) (order : Order) → IsEndless order → KeepsPatternBytes maps order →
    PlaysFor maps order (moved_order maps order)

abbrev pub moved_subtune : Maps → Subtune → Subtune
moved_subtune maps subtune = record {
  one = moved_order maps subtune.one;
  two = moved_order maps subtune.two;
  three = moved_order maps subtune.three;
}

-- a subtune that can be moved: each channel's orderlist goes on for ever, and its patterns get patterns' numbers
pub record CanBeMoved (maps : Maps) (subtune : Subtune) : Type 0 where
  pub endless : (channel : ℕ) → IsChannel channel → IsEndless (order_of channel subtune)
  pub keeps : (channel : ℕ) → IsChannel channel → KeepsPatternBytes maps (order_of channel subtune)

-- it plays the same patterns under their new numbers, with no repeat or transpose that wasn't there
pub record MovedSubtunePlays (maps : Maps) (subtune : Subtune) : Type 0 where
  pub plays : SubtunePlaysFor maps subtune (moved_subtune maps subtune)
  pub bytes : AddsNoOrderByte subtune (moved_subtune maps subtune)

abbrev pub MovedSubtunesPlayFor : Type 0
MovedSubtunesPlayFor = (maps : Maps) (subtune : Subtune) → CanBeMoved maps subtune → MovedSubtunePlays maps subtune
