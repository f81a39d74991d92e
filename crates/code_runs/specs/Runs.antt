-- Runs of machine code on a memory that is a function from places to bytes: the form in which code is reasoned about.
-- Their steps are the effects of the MOS 6502 programming manual's instructions.
use Rattle.std.specs.Prelude.{◌≡◌, ℕ, zero, suc, ◌+◌, ◌<◌, List, [], ◌∷◌, Result, Ok, Err, nat_eq, slice_index}
use Rattle.std.specs.Prelude.{if◌then◌else◌}
use Rattle.cpu6502.specs.declared.cpu.Cpu.{Cpu}
use Rattle.cpu6502.specs.declared.effect.Write.{Write}
use Rattle.cpu6502.specs.declared.effect.Effect.{Effect}
use Rattle.cpu6502.specs.declared.machine.Machine.{Machine}
use Rattle.cpu6502.specs.declared.stop.Stop.{Stop}
use Rattle.cpu6502.specs.Registers.{quiet, storing}
use Rattle.cpu6502.specs.Effects.{effect}
use Rattle.cpu6502.specs.Cycles.{cycles}

-- registers, and the byte at each place
pub record State : Type 0 where
  pub cpu : Cpu
  pub at : ℕ → ℕ

-- what a machine is as a state
abbrev pub view : Machine → State
view machine = record { cpu = machine.cpu; at = slice_index machine.memory }

-- a memory with a byte put at a place
abbrev pub put : (ℕ → ℕ) → ℕ → ℕ → ℕ → ℕ
put at place byte q = if nat_eq q place then byte else at q

-- a memory after these writes, one after the other
abbrev pub put_all : (ℕ → ℕ) → List Write → ℕ → ℕ
put_all at [] = at
put_all at (write ∷ writes) = put_all (put at write.place write.value) writes

-- a state after an effect
abbrev pub left : State → Effect → State
left state effect = record { cpu = effect.cpu; at = put_all state.at effect.writes }

-- the instruction that a state is at has this effect, and does not stand at address 0
pub record Does (state : State) (done : Effect) : Type 0 where
  pub is : effect state.at state.cpu ≡ Ok done
  pub away : 0 < state.cpu.pc

-- it leads to these registers, and writes nothing
pub record Goes (state : State) (cpu : Cpu) : Type 0 where
  pub is : effect state.at state.cpu ≡ Ok (quiet cpu)
  pub away : 0 < state.cpu.pc

-- it leads to these registers, and writes one byte, at this place
pub record Puts (state : State) (cpu : Cpu) (place byte : ℕ) : Type 0 where
  pub is : effect state.at state.cpu ≡ Ok (storing cpu place byte)
  pub away : 0 < state.cpu.pc

-- each of these writes is at an allowed place
abbrev pub Allowed : (ℕ → Type 0) → List Write → Type 0
Allowed W [] = Unit {0}
Allowed W (write ∷ writes) = W write.place × Allowed W writes

-- n steps lead from one state to the other. They write at allowed places only, and none of them begins at address 0
abbrev pub Runs : (ℕ → Type 0) → ℕ → State → State → Type 0
Runs W zero state after = state ≡ after
Runs W (suc n) state after =
    (done : Effect) × (effect state.at state.cpu ≡ Ok done) × (0 < state.cpu.pc) × Allowed W done.writes
    × Runs W n (left state done) after

-- the same as a record, which stays closed where the number of steps is a numeral
pub record Leads (W : ℕ → Type 0) (n : ℕ) (state after : State) : Type 0 where
  pub runs : Runs W n state after

-- ---- clock cycles

-- the cycles of what follows an effect; nothing follows a stop
abbrev pub cycles_behind : Result Effect Stop → (Effect → ℕ) → ℕ
cycles_behind (Ok done) go = go done
cycles_behind (Err stop) go = 0

-- the cycles of the next n steps from a state
abbrev pub cycles_from : ℕ → State → ℕ
cycles_from zero state = 0
cycles_from (suc n) state =
    cycles state.at state.cpu
    + cycles_behind (effect state.at state.cpu) (λ done. cycles_from n (left state done))

-- a run of n steps that takes so many cycles
pub record Lasts (W : ℕ → Type 0) (n cycles : ℕ) (state after : State) : Type 0 where
  pub leads : Leads W n state after
  pub takes : cycles_from n state ≡ cycles
