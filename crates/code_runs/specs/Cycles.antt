-- How many clock cycles the steps of a run take, each by the instruction that stands where it begins. Source: the MOS 6502
-- programming manual.
use Rattle.std.specs.Prelude.{◌≡◌, ℕ, ◌+◌, ◌%◌, Bool}
use Rattle.cpu6502.specs.declared.cpu.Cpu.{Cpu}
use Rattle.cpu6502.specs.declared.memory.TheConstants.{MEMORY_SIZE}
use Rattle.cpu6502.specs.declared.mnemonic.Mnemonic.{Mnemonic}
use Rattle.cpu6502.specs.declared.mnemonic.Mode.{Mode}
use Rattle.cpu6502.specs.Branches.{is_taken}
use Rattle.cpu6502.specs.Cycles.{index_cycles, branch_cycles}
use Rattle.cpu6502.specs.Manual.{cycles_of}
use Rattle.code_runs.specs.Runs.{State, Leads, cycles_from}
use Rattle.code_runs.specs.Code.{place_of, Stands}
use Rattle.code_runs.specs.Calls.{In}

-- without an index
abbrev pub unindexed : Cpu → Cpu
unindexed cpu = record cpu { x = 0; y = 0 }

-- those of an instruction with this operand, at the program counter: its row's, one where a byte is read by an index
-- in another page, and those of a branch that is taken
abbrev pub standing_cycles : Mnemonic → Mode → ℕ → State → ℕ
standing_cycles mnemonic mode operand state =
    cycles_of mnemonic mode
    + index_cycles mnemonic mode (place_of mode operand state.at (unindexed state.cpu))
    (place_of mode operand state.at state.cpu)
    + branch_cycles (is_taken mnemonic state.cpu) ((state.cpu.pc + 2) % MEMORY_SIZE)
    (place_of mode operand state.at state.cpu)

-- a step takes the cycles of the instruction that stands there
abbrev pub StepsTakeCycles : Type 0
StepsTakeCycles =
    (places : ℕ → Bool) (state after : State) (mnemonic : Mnemonic) (mode : Mode) (operand : ℕ) →
    Stands state.at state.cpu.pc mnemonic mode operand → Leads (In places) 1 state after →
    cycles_from 1 state ≡ standing_cycles mnemonic mode operand state

-- a run takes the cycles of its first part, and of the rest from where that leads
abbrev pub CyclesAdd : Type 0
CyclesAdd =
    (places : ℕ → Bool) (n more : ℕ) (state between : State) → Leads (In places) n state between →
    cycles_from (n + more) state ≡ cycles_from n state + cycles_from more between
