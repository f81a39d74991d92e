-- The decode table read both ways: which instruction an opcode byte stands for and how it finds its operand, and the
-- opcode of an instruction in an addressing mode. Source: the MOS 6502 programming manual. The table itself stands
-- once, as the constant `TABLE` of the code.
use Rattle.std.specs.Prelude.{◌≡◌, ℕ, ◌<◌, ◌&&◌, Bool, true, false, Option, Some, None, get_or, position}
use Rattle.std.specs.Option.{option_map}
use Rattle.cpu6502.specs.declared.mnemonic.Mnemonic.{Mnemonic}
use Rattle.cpu6502.specs.declared.mnemonic.Mode.{Mode}
use Rattle.cpu6502.specs.declared.mnemonic.Mode.TheVariants.{Implied, Accumulator, Immediate, ZeroPage, ZeroPageX}
use Rattle.cpu6502.specs.declared.mnemonic.Mode.TheVariants.{ZeroPageY, Absolute, AbsoluteX, AbsoluteY, IndirectX}
use Rattle.cpu6502.specs.declared.mnemonic.Mode.TheVariants.{IndirectY, Indirect, Relative}
use Rattle.cpu6502.specs.declared.table.Row.{Row}
use Rattle.cpu6502.specs.declared.table.TheConstants.{TABLE}
use Rattle.cpu6502.specs.contracts.mnemonic.Mnemonic.{the_type as mnemonics}
use Rattle.cpu6502.specs.contracts.mnemonic.Mode.{the_type as modes}
use denote.Enum.Bare.{sameb}

-- an instruction and its addressing mode
abbrev pub Meaning : Type 0
Meaning = Mnemonic × Mode

-- the row of an opcode; none where it has no row
abbrev pub row_of : ℕ → Option Row
row_of opcode = get_or TABLE opcode None

-- the instruction of a row, and its mode
abbrev pub meaning_in : Row → Meaning
meaning_in row = (row.mnemonic, row.mode)

-- what an opcode stands for; none where it has no row
abbrev pub meaning_of : ℕ → Option Meaning
meaning_of opcode = option_map meaning_in (row_of opcode)

-- whether a row is that of an instruction in a mode, by the equality of names and that of modes
abbrev pub is_row : Mnemonic → Mode → Option Row → Bool
is_row mnemonic mode None = false
is_row mnemonic mode (Some row) = sameb modes row.mode mode && sameb mnemonics row.mnemonic mnemonic

-- the opcode of an instruction in a mode: the first that has that row; none where none has it
abbrev pub opcode_of : Mnemonic → Mode → Option ℕ
opcode_of mnemonic mode = position (is_row mnemonic mode) TABLE

-- the bytes of an instruction, its opcode among them
abbrev pub length_of : Mode → ℕ
length_of Implied = 1
length_of Accumulator = 1
length_of Immediate = 2
length_of ZeroPage = 2
length_of ZeroPageX = 2
length_of ZeroPageY = 2
length_of Absolute = 3
length_of AbsoluteX = 3
length_of AbsoluteY = 3
length_of IndirectX = 2
length_of IndirectY = 2
length_of Indirect = 3
length_of Relative = 2

-- whether an instruction works on the accumulator in the place of memory
abbrev pub is_accumulator : Mode → Bool
is_accumulator Accumulator = true
is_accumulator _ = false

-- the opcode of an instruction in a mode stands for it
abbrev pub OpcodesHaveRows : Type 0
OpcodesHaveRows =
    (mnemonic : Mnemonic) (mode : Mode) (opcode : ℕ) → opcode_of mnemonic mode ≡ Some opcode →
    meaning_of opcode ≡ Some (mnemonic, mode)

-- what a byte stands for has that byte as its opcode
abbrev pub RowsHaveOpcodes : Type 0
RowsHaveOpcodes =
    (opcode : ℕ) (mnemonic : Mnemonic) (mode : Mode) → opcode < 256 → meaning_of opcode ≡ Some (mnemonic, mode) →
    opcode_of mnemonic mode ≡ Some opcode
