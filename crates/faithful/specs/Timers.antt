-- The timer that calls play more often than once a picture: the two bytes of timer A of the C64's first CIA, at $DC04
-- and $DC05, low byte first.
use Rattle.std.specs.Prelude.{◌≡◌, ℕ, ◌/◌, ◌%◌, ◌<◌, slice_index}
use Rattle.play_model.specs.Speeds.{timer_value}
use Rattle.play_model.specs.declared.options.Options.{Options}
use Rattle.cpu6502.specs.declared.machine.Machine.{Machine}

abbrev pub timer_low : ℕ
timer_low = 0xDC04

abbrev pub timer_high : ℕ
timer_high = 0xDC05

-- the timer of a machine has a value
pub record HasTimer (machine : Machine) (value : ℕ) : Type 0 where
  pub low : slice_index machine.memory timer_low ≡ value % 256
  pub high : slice_index machine.memory timer_high ≡ value / 256

-- init sets the timer, where the speed is above 1
abbrev pub SetsTimer : Options → Machine → Type 0
SetsTimer options after = 1 < options.speed → HasTimer after (timer_value options.system options.speed)

-- play leaves it as it finds it
pub record SameTimer (machine after : Machine) : Type 0 where
  pub low : slice_index after.memory timer_low ≡ slice_index machine.memory timer_low
  pub high : slice_index after.memory timer_high ≡ slice_index machine.memory timer_high

abbrev pub KeepsTimer : Options → Machine → Machine → Type 0
KeepsTimer options machine after = 1 < options.speed → SameTimer machine after
