-- A song whose state comes again, and what follows: a play has no input but the machine that it is called in, so what came
-- behind that state comes again for ever.
use Rattle.std.specs.Prelude.{ℕ, ◌+◌, ◌<◌, ◌≤◌, ◌↔◌}
use Rattle.cpu6502.specs.declared.machine.Machine.{Machine}
use Rattle.song_length.specs.Plays.{Lead, PlayTold, Tells}

-- the machine after so many plays is that after so many more: the registers, the flags, the stack pointer and all of memory
pub record Repeats (play : ℕ) (first : Machine) (from length : ℕ) : Type 0 where
  pub some : 1 ≤ length
  pub machine : Machine
  pub here : Lead play from first machine
  pub again : Lead play (from + length) first machine

-- each play returns; from there on the state after each is that after so many more, and each behind it tells what that tells
-- which comes so many plays after it; and none takes more clock cycles than the dearest of those before the state comes again
pub record GoesOn (play : ℕ) (first : Machine) (from length : ℕ) : Type 0 where
  pub returns : (n : ℕ) → (told : PlayTold) × Tells play first n told
  pub state : (n : ℕ) (machine : Machine) → from ≤ n → Lead play n first machine ↔ Lead play (n + length) first machine
  pub again : (n : ℕ) (told : PlayTold) → from ≤ n → Tells play first n told ↔ Tells play first (n + length) told
  pub most : (cycles : ℕ) → ((n : ℕ) (told : PlayTold) → n < from + length → Tells play first n told →
      told.cycles ≤ cycles) → (n : ℕ) (told : PlayTold) → Tells play first n told → told.cycles ≤ cycles

abbrev pub RepeatingSongsGoOn : Type 0
RepeatingSongsGoOn =
    (play : ℕ) (first : Machine) (from length : ℕ) → Repeats play first from length → GoesOn play first from length
