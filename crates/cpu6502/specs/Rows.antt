-- What the decode table says: how many rows it has, in all and of each number of cycles, that no two are alike, and
-- rows as they are printed. Source: the MOS 6502 programming manual, which documents 151 opcodes.
use Rattle.std.specs.Prelude.{◌≡◌, ℕ, zero, suc, ◌+◌, ◌<◌, Bool, false, Option, None, Some, nat_eq}
use Rattle.std.specs.Prelude.{count_by, if◌then◌else◌}
use Rattle.std.specs.Option.{is_some}
use Rattle.cpu6502.specs.declared.mnemonic.Mnemonic.{Mnemonic}
use Rattle.cpu6502.specs.declared.mnemonic.Mnemonic.TheVariants.{Adc, Asl, Bit, Bne, Brk, Inc, Jmp, Jsr, Lda, Ldx, Nop}
use Rattle.cpu6502.specs.declared.mnemonic.Mnemonic.TheVariants.{Pha, Php, Pla, Plp, Ror, Rti, Rts, Sta, Stx}
use Rattle.cpu6502.specs.declared.mnemonic.Mode.{Mode}
use Rattle.cpu6502.specs.declared.mnemonic.Mode.TheVariants.{Implied, Accumulator, Immediate, ZeroPage, ZeroPageX}
use Rattle.cpu6502.specs.declared.mnemonic.Mode.TheVariants.{ZeroPageY, Absolute, AbsoluteX, AbsoluteY, IndirectX}
use Rattle.cpu6502.specs.declared.mnemonic.Mode.TheVariants.{IndirectY, Indirect, Relative}
use Rattle.cpu6502.specs.declared.table.Row.{Row}
use Rattle.cpu6502.specs.declared.table.TheConstants.{TABLE}
use Rattle.cpu6502.specs.Opcodes.{Meaning, row_of, meaning_of, opcode_of}

-- the bytes below n that have a row
abbrev pub rows_below : ℕ → ℕ
rows_below zero = 0
rows_below (suc opcode) = rows_below opcode + (if is_some (meaning_of opcode) then 1 else 0)

-- of the 256 bytes 151 have one
abbrev pub TableHas151Rows : Type 0
TableHas151Rows = rows_below 256 ≡ 151

-- no two bytes stand for the same instruction in the same mode
abbrev pub RowsDiffer : Type 0
RowsDiffer =
    (one other : ℕ) (meaning : Meaning) → one < 256 → other < 256 → meaning_of one ≡ Some meaning →
    meaning_of other ≡ Some meaning → one ≡ other

-- the rows that take this many cycles
abbrev pub takes : ℕ → Option Row → Bool
takes cycles None = false
takes cycles (Some row) = nat_eq row.cycles cycles

abbrev pub rows_taking : ℕ → ℕ
rows_taking cycles = count_by (takes cycles) TABLE

-- each of the 151 takes from 2 to 7
abbrev pub CyclesAreCounted : Type 0
CyclesAreCounted =
    (rows_taking 2 ≡ 41) × (rows_taking 3 ≡ 18) × (rows_taking 4 ≡ 45) × (rows_taking 5 ≡ 16) × (rows_taking 6 ≡ 24)
    × (rows_taking 7 ≡ 7)

-- an opcode has this row
abbrev pub RowIs : ℕ → Mnemonic → Mode → ℕ → Type 0
RowIs opcode mnemonic mode cycles =
    row_of opcode ≡ Some (record { mnemonic = mnemonic; mode = mode; cycles = cycles })

-- what reads, in each mode
abbrev pub ReadsHaveRows : Type 0
ReadsHaveRows =
    RowIs 0xA9 Lda Immediate 2 × RowIs 0xA5 Lda ZeroPage 3 × RowIs 0xB5 Lda ZeroPageX 4 × RowIs 0xB6 Ldx ZeroPageY 4
    × RowIs 0xAD Lda Absolute 4 × RowIs 0xBD Lda AbsoluteX 4 × RowIs 0xB9 Lda AbsoluteY 4
    × RowIs 0xA1 Lda IndirectX 6 × RowIs 0xB1 Lda IndirectY 5

-- what stores: an indexed store always takes the cycle that a read takes where it crosses a page
abbrev pub StoresHaveRows : Type 0
StoresHaveRows =
    RowIs 0x85 Sta ZeroPage 3 × RowIs 0x95 Sta ZeroPageX 4 × RowIs 0x96 Stx ZeroPageY 4 × RowIs 0x8D Sta Absolute 4
    × RowIs 0x9D Sta AbsoluteX 5 × RowIs 0x99 Sta AbsoluteY 5 × RowIs 0x81 Sta IndirectX 6
    × RowIs 0x91 Sta IndirectY 6

-- what changes the accumulator or a byte of memory
abbrev pub ChangesHaveRows : Type 0
ChangesHaveRows =
    RowIs 0x0A Asl Accumulator 2 × RowIs 0x06 Asl ZeroPage 5 × RowIs 0x76 Ror ZeroPageX 6 × RowIs 0x0E Asl Absolute 6
    × RowIs 0xFE Inc AbsoluteX 7

-- what has no operand in memory, and what jumps
abbrev pub OthersHaveRows : Type 0
OthersHaveRows =
    RowIs 0xEA Nop Implied 2 × RowIs 0x48 Pha Implied 3 × RowIs 0x08 Php Implied 3 × RowIs 0x68 Pla Implied 4
    × RowIs 0x28 Plp Implied 4 × RowIs 0x00 Brk Implied 7
    × RowIs 0x40 Rti Implied 6 × RowIs 0x60 Rts Implied 6 × RowIs 0x20 Jsr Absolute 6 × RowIs 0x4C Jmp Absolute 3
    × RowIs 0x6C Jmp Indirect 5 × RowIs 0xD0 Bne Relative 2

-- bytes that are undocumented: at the table's end, between rows, and where the 65C02 has a row
abbrev pub UndocumentedBytesHaveNone : Type 0
UndocumentedBytesHaveNone =
    (row_of 0x02 ≡ None) × (row_of 0x1A ≡ None) × (row_of 0x80 ≡ None) × (row_of 0x9E ≡ None) × (row_of 0xEB ≡ None)
    × (row_of 0xFF ≡ None) × (meaning_of 0x02 ≡ None)

-- modes that an instruction hasn't
abbrev pub MissingModesHaveNone : Type 0
MissingModesHaveNone =
    (opcode_of Sta Immediate ≡ None) × (opcode_of Stx AbsoluteY ≡ None) × (opcode_of Bit AbsoluteX ≡ None)
    × (opcode_of Inc Accumulator ≡ None) × (opcode_of Jmp AbsoluteX ≡ None) × (opcode_of Adc Implied ≡ None)
