-- How many clock cycles an instruction takes. Source: the MOS 6502 programming manual. Those of each opcode stand once,
-- in the table of the code; what is added to them is said here.
use Rattle.std.specs.Prelude.{ℕ, ◌+◌, ◌/◌, ◌%◌, ◌&&◌, Bool, true, false, not, nat_eq, Option, Some, None}
use Rattle.cpu6502.specs.declared.cpu.Cpu.{Cpu}
use Rattle.cpu6502.specs.declared.memory.TheConstants.{MEMORY_SIZE}
use Rattle.cpu6502.specs.declared.mnemonic.Mnemonic.{Mnemonic}
use Rattle.cpu6502.specs.declared.mnemonic.Mnemonic.TheVariants.{Adc, And, Cmp, Eor, Lda, Ldx, Ldy, Ora, Sbc}
use Rattle.cpu6502.specs.declared.mnemonic.Mode.{Mode}
use Rattle.cpu6502.specs.declared.mnemonic.Mode.TheVariants.{AbsoluteX, AbsoluteY, IndirectY}
use Rattle.cpu6502.specs.declared.stop.Stop.{Stop}
use Rattle.cpu6502.specs.declared.table.Row.{Row}
use Rattle.cpu6502.specs.Registers.{one_if}
use Rattle.cpu6502.specs.Opcodes.{row_of}
use Rattle.cpu6502.specs.Branches.{is_taken}
use Rattle.cpu6502.specs.Effects.{address_of, stop_of}

-- two places are in different pages, of 256 bytes each
abbrev pub crosses : ℕ → ℕ → Bool
crosses from to = not (nat_eq (from / 256) (to / 256))

-- what reads a byte, writes none, and may have an index; what writes one by an index always takes the cycle that a read
-- takes where it crosses a page
abbrev pub is_read : Mnemonic → Bool
is_read Adc = true
is_read And = true
is_read Cmp = true
is_read Eor = true
is_read Lda = true
is_read Ldx = true
is_read Ldy = true
is_read Ora = true
is_read Sbc = true
is_read _ = false

-- the modes whose index is added to a place of two bytes
abbrev pub is_paged : Mode → Bool
is_paged AbsoluteX = true
is_paged AbsoluteY = true
is_paged IndirectY = true
is_paged _ = false

-- one cycle more where a byte is read by an index in another page than without it
abbrev pub index_cycles : Mnemonic → Mode → ℕ → ℕ → ℕ
index_cycles mnemonic mode unindexed place = one_if (is_paged mode && is_read mnemonic && crosses unindexed place)

-- one cycle more where a branch is taken, and another one where that leads into another page than that of the next
-- instruction
abbrev pub branch_cycles : Option Bool → ℕ → ℕ → ℕ
branch_cycles (Some true) next place = 1 + one_if (crosses next place)
branch_cycles _ next place = 0

-- those of the instruction at the program counter, which has this row
abbrev pub row_cycles : Row → (ℕ → ℕ) → Cpu → ℕ
row_cycles row at cpu =
    row.cycles
    + index_cycles row.mnemonic row.mode (address_of row.mode at cpu.pc 0 0) (address_of row.mode at cpu.pc cpu.x cpu.y)
    + branch_cycles (is_taken row.mnemonic cpu) ((cpu.pc + 2) % MEMORY_SIZE) (address_of row.mode at cpu.pc cpu.x cpu.y)

-- none where it stops
abbrev pub unless_stopped : Option Stop → ℕ → ℕ
unless_stopped None cycles = cycles
unless_stopped (Some stop) cycles = 0

abbrev pub cycles_by : Option Row → (ℕ → ℕ) → Cpu → ℕ
cycles_by None at cpu = 0
cycles_by (Some row) at cpu = unless_stopped (stop_of row.mnemonic cpu.pc cpu) (row_cycles row at cpu)

-- the cycles of the instruction at the program counter
abbrev pub cycles : (ℕ → ℕ) → Cpu → ℕ
cycles at cpu = cycles_by (row_of (at cpu.pc)) at cpu
