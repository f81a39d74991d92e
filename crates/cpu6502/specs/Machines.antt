-- Machines stay machines: whatever a step or a call does, registers stay bytes, places stay addresses, and memory
-- keeps its size. Source: the sizes of the MOS 6502 programming manual.
use Rattle.std.specs.Prelude.{◌≡◌, ℕ, ◌<◌, Ok}
use Rattle.cpu6502.specs.declared.machine.Machine.{Machine}
use Rattle.cpu6502.specs.declared.memory.TheConstants.{MEMORY_SIZE}
use Rattle.cpu6502.specs.Step.{step}
use Rattle.cpu6502.specs.Call.{Called}
use Rattle.cpu6502.specs.Code.{IsMachine}

-- the machine after a step of a machine
abbrev pub StepsKeepMachines : Type 0
StepsKeepMachines = (machine after : Machine) → IsMachine machine → step machine ≡ Ok after → IsMachine after

-- the machine that a call leaves, where the call was to an address with a byte in the accumulator
abbrev pub CallsKeepMachines : Type 0
CallsKeepMachines =
    (machine after : Machine) (address a steps : ℕ) → IsMachine machine → address < MEMORY_SIZE → a < 256 →
    Called machine address a steps after → IsMachine after
