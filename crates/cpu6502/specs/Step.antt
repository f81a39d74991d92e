-- One step of the machine: the machine after the instruction at the program counter, or a stop. Source: the MOS 6502
-- programming manual.
use Rattle.std.specs.Prelude.{ℕ, List, [], ◌∷◌, Result, Ok, Err, slice_index, slice_set}
use Rattle.cpu6502.specs.declared.effect.Write.{Write}
use Rattle.cpu6502.specs.declared.effect.Effect.{Effect}
use Rattle.cpu6502.specs.declared.machine.Machine.{Machine}
use Rattle.cpu6502.specs.declared.stop.Stop.{Stop}
use Rattle.cpu6502.specs.Effects.{effect}
use Rattle.cpu6502.specs.Cycles.{cycles}

-- a memory after these writes, one after the other
abbrev pub written : List ℕ → List Write → List ℕ
written memory [] = memory
written memory (write ∷ writes) = written (slice_set memory write.place write.value) writes

-- a machine after an effect
abbrev pub changed : Machine → Effect → Machine
changed machine effect = record { cpu = effect.cpu; memory = written machine.memory effect.writes }

-- a machine after what its instruction does, or the stop
abbrev pub stepped : Machine → Result Effect Stop → Result Machine Stop
stepped machine (Ok done) = Ok (changed machine done)
stepped machine (Err stop) = Err stop

-- the effect of the instruction that a machine is at
abbrev pub next_effect : Machine → Result Effect Stop
next_effect machine = effect (slice_index machine.memory) machine.cpu

-- the clock cycles of that instruction; 0 where it stops
abbrev pub next_cycles : Machine → ℕ
next_cycles machine = cycles (slice_index machine.memory) machine.cpu

-- the machine after one step, or the stop that it meets
abbrev pub step : Machine → Result Machine Stop
step machine = stepped machine (next_effect machine)
