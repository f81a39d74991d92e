-- Where an orderlist's walk never ends: this project's profile of the GoatTracker 2 readme.
use Rattle.std.specs.Prelude.{ℕ, ◌<◌, length, drop, Any}
use Rattle.song_model.specs.declared.orders.Order.{Order}

-- the number of a pattern, and no repeat or transpose
abbrev pub IsPatternByte : ℕ → Type 0
IsPatternByte byte = byte < 0xD0

-- the restart position is the place of an entry, and a pattern stands from there to the end; the
-- format calls this sound
pub record IsEndless (order : Order) : Type 0 where
  pub restart : order.restart < length order.entries
  pub pattern : Any IsPatternByte (drop order.restart order.entries)
