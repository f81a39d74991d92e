-- How a line is read: what it would say if it were written as it should be. Whether it is is tried by writing that.
use Rattle.std.specs.Prelude.{ℕ, ◌+◌, ◌*◌, ◌%◌, ◌&&◌, Bool, true, false, List, length, Option, Some}
use Rattle.std.specs.Prelude.{nat_eq, nat_lt, if◌then◌else◌, slice_index}
use Rattle.std.specs.Option.{option_map, is_some}
use Rattle.cpu6502.specs.declared.mnemonic.Mnemonic.{Mnemonic}
use Rattle.cpu6502.specs.declared.mnemonic.Mode.{Mode}
use Rattle.cpu6502.specs.declared.mnemonic.Mode.TheVariants.{Implied, Accumulator, Immediate, ZeroPage, ZeroPageX}
use Rattle.cpu6502.specs.declared.mnemonic.Mode.TheVariants.{ZeroPageY, Absolute, AbsoluteX, AbsoluteY, IndirectX}
use Rattle.cpu6502.specs.declared.mnemonic.Mode.TheVariants.{IndirectY, Indirect, Relative}
use Rattle.cpu6502.specs.Opcodes.{opcode_of, length_of}
use Rattle.asm6502.specs.Operands.{takes_label}
use Rattle.asm_text.specs.declared.statements.Operand.{Operand}
use Rattle.asm_text.specs.declared.statements.Operand.TheVariants.{Nothing, Number, Label as LabelOf}
use Rattle.asm_text.specs.declared.statements.Statement.{Statement}
use Rattle.asm_text.specs.declared.statements.Statement.TheVariants.{Label, Byte, Code}
use Rattle.asm_text.specs.Names.{named}
use Rattle.asm_text.specs.Statements.{before}

-- what a byte is worth as a digit
abbrev pub digit_value : ℕ → ℕ
digit_value byte = if nat_lt byte 64 then byte % 16 else (byte % 16 + 9) % 16

-- what two digits at a place of a line spell, and four
abbrev pub byte_value : List ℕ → ℕ → ℕ
byte_value line place = digit_value (slice_index line place) * 16 + digit_value (slice_index line (place + 1))

abbrev pub word_value : List ℕ → ℕ → ℕ
word_value line place = byte_value line place * 256 + byte_value line (place + 2)

-- the mode that a line of nine bytes shows, and one of eleven
abbrev pub mode_of_nine : List ℕ → Mode
mode_of_nine line =
    if nat_eq (slice_index line 7) 44 then (if nat_eq (slice_index line 8) 88 then ZeroPageX else ZeroPageY)
    else Absolute

abbrev pub mode_in_brackets : List ℕ → Mode
mode_in_brackets line =
    if nat_eq (slice_index line 8) 44 then IndirectX
    else if nat_eq (slice_index line 8) 41 then IndirectY
    else Indirect

abbrev pub mode_of_eleven : List ℕ → Mode
mode_of_eleven line =
    if nat_eq (slice_index line 4) 40 then mode_in_brackets line
    else if nat_eq (slice_index line 10) 88 then AbsoluteX
    else AbsoluteY

-- the mode that an instruction's line shows by its length and its signs
abbrev pub mode_shown : List ℕ → Mode
mode_shown line =
    if nat_eq (length line) 3 then Implied
    else if nat_eq (length line) 5 then Accumulator
    else if nat_eq (length line) 7 then ZeroPage
    else if nat_eq (length line) 8 then Immediate
    else if nat_eq (length line) 9 then mode_of_nine line
    else mode_of_eleven line

-- whether a mode is that of an address alone
abbrev pub is_absolute : Mode → Bool
is_absolute Absolute = true
is_absolute _ = false

-- an address alone is the target of a branch
abbrev pub mode_for : Mnemonic → Mode → Mode
mode_for mnemonic mode = if is_absolute mode && is_some (opcode_of mnemonic Relative) then Relative else mode

-- the operand whose sign stands at a place
abbrev pub operand_at : Mode → List ℕ → ℕ → Operand
operand_at mode line sign =
    if nat_eq (length_of mode) 1 then Nothing
    else if takes_label mode then
    (if nat_eq (slice_index line sign) 76 then LabelOf (word_value line (sign + 1))
    else Number (word_value line (sign + 1))) else Number (byte_value line (sign + 1))

-- the operand of a line with this mode
abbrev pub operand_shown : Mode → List ℕ → Operand
operand_shown mode line = operand_at mode line (3 + length (before mode))

abbrev pub code_shown : Mnemonic → Mode → List ℕ → Statement
code_shown mnemonic mode line = Code mnemonic mode (operand_shown mode line)

-- what a line would say
abbrev pub shown : List ℕ → Option Statement
shown line =
    if nat_eq (length line) 6 then Some (Label (word_value line 1))
    else if nat_eq (slice_index line 0) 46 then Some (Byte (byte_value line 7))
    else option_map (λ mnemonic. code_shown mnemonic (mode_for mnemonic (mode_shown line)) line)
    (named (slice_index line 0) (slice_index line 1) (slice_index line 2))
