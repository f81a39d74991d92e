-- Plays of a file, one after the other, each from the machine that the one before it left: play is called with the
-- accumulator as it stands.
use Rattle.std.specs.Prelude.{◌≡◌, ℕ, zero, suc, ◌≤◌, List}
use Rattle.cpu6502.specs.declared.machine.Machine.{Machine}
use Rattle.cpu6502.specs.Call.{Called, call_cycles}
use Rattle.sid_run.specs.State.{sid_registers, most_steps}

-- a call at an address, with a number in the accumulator, returns after so many steps, no more than a call may take, in
-- another machine
pub record Takes (before : Machine) (entry number steps : ℕ) (after : Machine) : Type 0 where
  pub called : Called before entry number steps after
  pub within : steps ≤ most_steps

-- so does a play
abbrev pub PlayTakes : ℕ → Machine → ℕ → Machine → Type 0
PlayTakes play before steps after = Takes before play before.cpu.a steps after

-- so many plays lead from one machine to another
abbrev pub Lead : ℕ → ℕ → Machine → Machine → Type 0
Lead play zero first last = last ≡ first
Lead play (suc n) first last =
    (before : Machine) × (steps : ℕ) × Lead play n first before × PlayTakes play before steps last

-- so many plays return, one after the other
abbrev pub PlaysReturn : ℕ → ℕ → Machine → Type 0
PlaysReturn play n first = (last : Machine) × Lead play n first last

-- what is told of a play: its steps and its clock cycles, and the SID's registers after it
pub record PlayTold : Type 0 where
  pub steps : ℕ
  pub cycles : ℕ
  pub registers : List ℕ

-- that of the play behind so many others
pub record Tells (play : ℕ) (first : Machine) (n : ℕ) (told : PlayTold) : Type 0 where
  pub before : Machine
  pub after : Machine
  pub led : Lead play n first before
  pub takes : PlayTakes play before told.steps after
  pub cycles : told.cycles ≡ call_cycles before play before.cpu.a told.steps
  pub registers : told.registers ≡ sid_registers after
