-- The statements of a text listing, and how each is written. This is the project's own notation, in the letters and
-- signs of the MOS 6502 programming manual.
use Rattle.std.specs.Prelude.{ℕ, ◌%◌, ◌&&◌, ◌||◌, Bool, true, List, [], ◌++◌, nat_eq, nat_lt}
use Rattle.std.specs.Prelude.{if◌then◌else◌, codes}
use Rattle.std.specs.Option.{is_some}
use Rattle.base.specs.Bytes.{IsByte, IsWord}
use Rattle.cpu6502.specs.declared.mnemonic.Mode.{Mode}
use Rattle.cpu6502.specs.declared.mnemonic.Mode.TheVariants.{Implied, Accumulator, Immediate, ZeroPage, ZeroPageX}
use Rattle.cpu6502.specs.declared.mnemonic.Mode.TheVariants.{ZeroPageY, Absolute, AbsoluteX, AbsoluteY, IndirectX}
use Rattle.cpu6502.specs.declared.mnemonic.Mode.TheVariants.{IndirectY, Indirect, Relative}
use Rattle.cpu6502.specs.Opcodes.{opcode_of, length_of}
use Rattle.asm6502.specs.Operands.{takes_label}
use Rattle.asm_text.specs.declared.statements.Operand.{Operand}
use Rattle.asm_text.specs.declared.statements.Operand.TheVariants.{Nothing, Number, Label as LabelOf}
use Rattle.asm_text.specs.declared.statements.Statement.{Statement}
use Rattle.asm_text.specs.declared.statements.Statement.TheVariants.{Label, Byte, Code}
use Rattle.asm_text.specs.Names.{letters_of}
use Rattle.asm_text.specs.Numbers.{byte_digits, word_digits}

-- the form of an operand: what stands before the sign of its number, and what stands behind the digits
abbrev pub before : Mode → List ℕ
before Implied = []
before Accumulator = codes " A"
before Immediate = codes " #"
before ZeroPage = codes " "
before ZeroPageX = codes " "
before ZeroPageY = codes " "
before Absolute = codes " "
before AbsoluteX = codes " "
before AbsoluteY = codes " "
before IndirectX = codes " ("
before IndirectY = codes " ("
before Indirect = codes " ("
before Relative = codes " "

abbrev pub behind : Mode → List ℕ
behind Implied = []
behind Accumulator = []
behind Immediate = []
behind ZeroPage = []
behind ZeroPageX = codes ",X"
behind ZeroPageY = codes ",Y"
behind Absolute = []
behind AbsoluteX = codes ",X"
behind AbsoluteY = codes ",Y"
behind IndirectX = codes ",X)"
behind IndirectY = codes "),Y"
behind Indirect = codes ")"
behind Relative = []

-- a number has four digits where the mode takes a label, that is where it is an address; else two
abbrev pub digits : Mode → ℕ → List ℕ
digits mode number = if takes_label mode then word_digits number else byte_digits (number % 256)

-- what stands behind the name of an instruction: the sign $ and a number, or L and a label's number
abbrev pub operand_text : Mode → Operand → List ℕ
operand_text mode Nothing = before mode
operand_text mode (Number number) = before mode ++ codes "$" ++ digits mode number ++ behind mode
operand_text mode (LabelOf label) = before mode ++ codes "L" ++ word_digits label ++ behind mode

-- the text of a statement, without the line feed that ends its line
abbrev pub spelling : Statement → List ℕ
spelling (Label label) = codes "L" ++ word_digits label ++ codes ":"
spelling (Byte byte) = codes ".byte $" ++ byte_digits byte
spelling (Code mnemonic mode operand) = letters_of mnemonic ++ operand_text mode operand

-- the text of the first line, which gives the origin
abbrev pub origin_text : ℕ → List ℕ
origin_text origin = codes "* = $" ++ word_digits origin

-- whether an operand suits a mode: nothing where there is no operand, a number that has the mode's digits, a label
-- where there are four
abbrev pub suits : Mode → Operand → Bool
suits mode Nothing = nat_eq (length_of mode) 1
suits mode (Number number) = takes_label mode || nat_eq (length_of mode) 2 && nat_lt number 256
suits mode (LabelOf label) = takes_label mode

-- whether a statement may stand in a listing: an instruction has the mode by the decode table
abbrev pub is_right : Statement → Bool
is_right (Label label) = true
is_right (Byte byte) = true
is_right (Code mnemonic mode operand) = is_some (opcode_of mnemonic mode) && suits mode operand

-- the numbers in a statement are bytes and addresses
abbrev pub OperandInRange : Operand → Type 0
OperandInRange Nothing = Unit {0}
OperandInRange (Number number) = IsWord number
OperandInRange (LabelOf label) = IsWord label

abbrev pub InRange : Statement → Type 0
InRange (Label label) = IsWord label
InRange (Byte byte) = IsByte byte
InRange (Code mnemonic mode operand) = OperandInRange operand

-- the bytes that a statement takes
abbrev pub size : Statement → ℕ
size (Label label) = 0
size (Byte byte) = 1
size (Code mnemonic mode operand) = length_of mode
