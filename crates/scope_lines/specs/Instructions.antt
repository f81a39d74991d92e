-- The instructions that stand for lines: the addressing mode of each operand, the branch of each test, and which
-- instructions a block may have. Source: the MOS 6502 programming manual.
use Rattle.std.specs.Prelude.{ℕ, ◌+◌, ◌&&◌, Bool}
use Rattle.std.specs.Option.{is_some}
use Rattle.cpu6502.specs.declared.mnemonic.Mnemonic.{Mnemonic}
use Rattle.cpu6502.specs.declared.mnemonic.Mnemonic.TheVariants.{Asl, Bcc, Bcs, Beq, Bmi, Bne, Bpl, Jmp, Lsr, Rol}
use Rattle.cpu6502.specs.declared.mnemonic.Mnemonic.TheVariants.{Ror}
use Rattle.cpu6502.specs.declared.mnemonic.Mode.{Mode}
use Rattle.cpu6502.specs.declared.mnemonic.Mode.TheVariants.{Implied, Accumulator, Immediate, ZeroPage, Absolute}
use Rattle.cpu6502.specs.declared.mnemonic.Mode.TheVariants.{AbsoluteX, AbsoluteY, IndirectY, Relative}
use Rattle.cpu6502.specs.Opcodes.{opcode_of}
use Rattle.asm6502.specs.declared.lines.Operand.{Operand as Argument}
use Rattle.asm6502.specs.declared.lines.Operand.TheVariants.{Number as Numeral, Label}
use Rattle.asm6502.specs.declared.lines.Item.TheVariants.{Code}
use Rattle.asm6502.specs.declared.lines.Line.{Line}
use Rattle.scopes.specs.declared.line.Operand.{Operand}
use Rattle.scopes.specs.declared.line.Operand.TheVariants.{Number, Var, Own, Entry, Pointed, Pointer, Register}
use Rattle.scopes.specs.declared.line.Operand.TheVariants.{OwnRegister, Timer}
use Rattle.scopes.specs.declared.line.Flag.TheVariants.{Zero, Minus, Carry}
use Rattle.scopes.specs.declared.line.Test.{Test}
use Rattle.scopes.specs.declared.line.Test.TheVariants.{On, Off}
use Rattle.scopes.specs.Desk.{half_place}
use Rattle.scopes.specs.Plain.{is_plain}

-- a line of the assembler, in the part that is always kept
abbrev pub code : Mnemonic → Mode → Argument → Line
code mnemonic mode argument = record { part = 255; item = Code mnemonic mode argument }

-- ---- operands

-- X and Y are added where the label's byte is the voice's, or an entry
abbrev pub mode_of : Operand → Mode
mode_of (Number number) = Immediate
mode_of (Var label) = Absolute
mode_of (Own label) = AbsoluteX
mode_of (Entry label) = AbsoluteY
mode_of Pointed = IndirectY
mode_of (Pointer half) = ZeroPage
mode_of (Register register) = Absolute
mode_of (OwnRegister register) = AbsoluteX
mode_of (Timer half) = Absolute

-- what stands behind the opcode, with the pointer at a place of page 0
abbrev pub argument_of : ℕ → Operand → Argument
argument_of pointer (Number number) = Numeral number
argument_of pointer (Var label) = Label label 0
argument_of pointer (Own label) = Label label 0
argument_of pointer (Entry label) = Label label 0
argument_of pointer Pointed = Numeral pointer
argument_of pointer (Pointer half) = Numeral (half_place pointer half)
argument_of pointer (Register register) = Numeral (0xD400 + register)
argument_of pointer (OwnRegister register) = Numeral (0xD400 + register)
argument_of pointer (Timer half) = Numeral (half_place 0xDC04 half)

-- without an operand, a shift works on A
abbrev pub alone_mode : Mnemonic → Mode
alone_mode Asl = Accumulator
alone_mode Lsr = Accumulator
alone_mode Rol = Accumulator
alone_mode Ror = Accumulator
alone_mode _ = Implied

-- ---- branches

abbrev pub branch_of : Test → Mnemonic
branch_of (On Zero) = Beq
branch_of (Off Zero) = Bne
branch_of (On Minus) = Bmi
branch_of (Off Minus) = Bpl
branch_of (On Carry) = Bcs
branch_of (Off Carry) = Bcc

-- a branch with its displacement byte, and a jump to a place so many bytes behind a label
abbrev pub branch : Test → ℕ → Line
branch test displacement = code (branch_of test) Relative (Numeral displacement)

abbrev pub jump : ℕ → ℕ → Line
jump label offset = code Jmp Absolute (Label label offset)

-- ---- which instructions a block may have

-- one that the processor has, in that mode
abbrev pub is_spelled : Mnemonic → Mode → Bool
is_spelled mnemonic mode = is_plain mnemonic && is_some (opcode_of mnemonic mode)
