-- The instruction at the program counter, decoded.
use Rattle.std.specs.Prelude.{ℕ, Option}
use Rattle.std.specs.Option.{option_map}
use Rattle.cpu6502.specs.declared.cpu.Cpu.{Cpu}
use Rattle.cpu6502.specs.declared.instruction.Instruction.{Instruction}
use Rattle.cpu6502.specs.declared.table.Row.{Row}
use Rattle.cpu6502.specs.Opcodes.{row_of}
use Rattle.cpu6502.specs.Effects.{address_of}

-- a row of the table, with the place of its operand
abbrev pub instruction_of : Row → (ℕ → ℕ) → Cpu → Instruction
instruction_of row at cpu = record { row = row; place = address_of row.mode at cpu.pc cpu.x cpu.y }

-- that of the opcode at the program counter; none where it has no row
abbrev pub fetched : (ℕ → ℕ) → Cpu → Option Instruction
fetched at cpu = option_map (λ row. instruction_of row at cpu) (row_of (at cpu.pc))
