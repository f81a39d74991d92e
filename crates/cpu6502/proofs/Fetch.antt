-- An instruction that is decoded: its row, its place, and its cycles.
use Rattle.std.proofs.Common.{◌≡◌, ℕ, ◌+◌, ◌%◌, Option, Some, None, Ok, refl, sym, ap, ◌∙◌}
use Rattle.base.proofs.Laws.{same_some}
use Rattle.cpu6502.specs.declared.cpu.Cpu.{Cpu}
use Rattle.cpu6502.specs.declared.effect.Effect.{Effect}
use Rattle.cpu6502.specs.declared.instruction.Instruction.{Instruction}
use Rattle.cpu6502.specs.declared.memory.TheConstants.{MEMORY_SIZE}
use Rattle.cpu6502.specs.declared.stop.Stop.{Stop}
use Rattle.cpu6502.specs.declared.table.Row.{Row}
use Rattle.cpu6502.specs.Opcodes.{row_of, meaning_in, meaning_of}
use Rattle.cpu6502.specs.Branches.{is_taken}
use Rattle.cpu6502.specs.Effects.{address_of, effect, stop_of}
use Rattle.cpu6502.specs.Cycles.{index_cycles, branch_cycles, unless_stopped, row_cycles, cycles_by, cycles}
use Rattle.cpu6502.specs.Fetch.{instruction_of, fetched}
use Rattle.std.specs.Option.{option_map}
use Rattle.cpu6502.proofs.Columns.{has_row, effects_take}

-- it is the row at the program counter, and its place the row's there
pub record IsFetched (at : ℕ → ℕ) (cpu : Cpu) (instruction : Instruction) : Type 0 where
  pub row : row_of (at cpu.pc) ≡ Some instruction.row
  pub place : instruction.place ≡ address_of instruction.row.mode at cpu.pc cpu.x cpu.y

pub is_fetched : (at : ℕ → ℕ) (cpu : Cpu) (instruction : Instruction) → fetched at cpu ≡ Some instruction →
    IsFetched at cpu instruction
is_fetched at cpu instruction e = by_row (row_of (at cpu.pc)) refl e
  where
    by_row : (r : Option Row) → row_of (at cpu.pc) ≡ r → option_map (λ row. instruction_of row at cpu) r ≡ Some instruction →
        IsFetched at cpu instruction
    by_row None is none = absurd cc
    by_row (Some row) is some =
        let same = same_some (instruction_of row at cpu) instruction some in
        let rows : row ≡ instruction.row = ap (λ (i : Instruction). i.row) same in
        record {
          row = is ∙ ap Some rows;
          place = sym (ap (λ (i : Instruction). i.place) same)
              ∙ ap (λ (r : Row). address_of r.mode at cpu.pc cpu.x cpu.y) rows;
        }

-- what it stands for
pub fetched_means : (at : ℕ → ℕ) (cpu : Cpu) (instruction : Instruction) → fetched at cpu ≡ Some instruction →
    meaning_of (at cpu.pc) ≡ Some (instruction.row.mnemonic, instruction.row.mode)
fetched_means at cpu instruction e = ap (option_map meaning_in) (is_fetched at cpu instruction e).row

-- its cycles, where it doesn't stop
pub fetched_takes : (at : ℕ → ℕ) (cpu : Cpu) (instruction : Instruction) → fetched at cpu ≡ Some instruction →
    stop_of instruction.row.mnemonic cpu.pc cpu ≡ None →
    cycles at cpu
    ≡ instruction.row.cycles
    + index_cycles instruction.row.mnemonic instruction.row.mode (address_of instruction.row.mode at cpu.pc 0 0)
    instruction.place
    + branch_cycles (is_taken instruction.row.mnemonic cpu) ((cpu.pc + 2) % MEMORY_SIZE) instruction.place
fetched_takes at cpu instruction e goes =
    let is = is_fetched at cpu instruction e in
    ap (λ r. cycles_by r at cpu) is.row
    ∙ ap (λ s. unless_stopped s (row_cycles instruction.row at cpu)) goes
    ∙ ap
    (λ place. instruction.row.cycles
    + index_cycles instruction.row.mnemonic instruction.row.mode (address_of instruction.row.mode at cpu.pc 0 0) place
    + branch_cycles (is_taken instruction.row.mnemonic cpu) ((cpu.pc + 2) % MEMORY_SIZE) place)
    (sym is.place)

-- and none where it does
pub fetched_stops : (at : ℕ → ℕ) (cpu : Cpu) (instruction : Instruction) (stop : Stop) →
    fetched at cpu ≡ Some instruction → stop_of instruction.row.mnemonic cpu.pc cpu ≡ Some stop → cycles at cpu ≡ 0
fetched_stops at cpu instruction stop e stops =
    ap (λ r. cycles_by r at cpu) (is_fetched at cpu instruction e).row
    ∙ ap (λ s. unless_stopped s (row_cycles instruction.row at cpu)) stops

-- an instruction that has an effect meets no stop
pub fetched_goes : (at : ℕ → ℕ) (cpu : Cpu) (instruction : Instruction) (done : Effect) →
    fetched at cpu ≡ Some instruction → effect at cpu ≡ Ok done →
    stop_of instruction.row.mnemonic cpu.pc cpu ≡ None
fetched_goes at cpu instruction done e goes = by_stop (stop_of instruction.row.mnemonic cpu.pc cpu) refl
  where
    by_stop : (s : Option Stop) → stop_of instruction.row.mnemonic cpu.pc cpu ≡ s → s ≡ None
    by_stop None is = refl
    by_stop (Some stop) is =
        let below = has_row (at cpu.pc) instruction.row (is_fetched at cpu instruction e).row in
        absurd (effects_take at cpu done below goes (fetched_stops at cpu instruction stop e is))
