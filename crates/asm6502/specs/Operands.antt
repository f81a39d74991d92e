-- The operands of a listing: which modes they suit, and the numbers that they name where labels have addresses. This
-- is the assembler's own profile.
use Rattle.std.specs.Prelude.{ℕ, ◌+◌, ◌/◌, ◌%◌, ◌&&◌, ◌||◌, Bool, true, false, Option, Some, None}
use Rattle.std.specs.Prelude.{unwrap_or, nat_eq, nat_lt, not, if◌then◌else◌}
use Rattle.std.specs.Option.{is_some}
use Rattle.cpu6502.specs.declared.memory.TheConstants.{MEMORY_SIZE}
use Rattle.cpu6502.specs.declared.mnemonic.Mode.{Mode}
use Rattle.cpu6502.specs.declared.mnemonic.Mode.TheVariants.{Immediate, Absolute, AbsoluteX, AbsoluteY, Indirect, Relative}
use Rattle.cpu6502.specs.Opcodes.{length_of}
use Rattle.cpu6502.specs.Effects.{displacement}
use Rattle.asm6502.specs.declared.lines.Operand.{Operand}
use Rattle.asm6502.specs.declared.lines.Operand.TheVariants.{Nothing, Number, Label, Low, High}
use Rattle.asm6502.specs.Branches.{branch_byte}

abbrev pub is_relative : Mode → Bool
is_relative Relative = true
is_relative _ = false

abbrev pub is_immediate : Mode → Bool
is_immediate Immediate = true
is_immediate _ = false

-- the modes whose operand may be a label: an address of two bytes, or the place that a branch goes to
abbrev pub takes_label : Mode → Bool
takes_label Absolute = true
takes_label AbsoluteX = true
takes_label AbsoluteY = true
takes_label Indirect = true
takes_label Relative = true
takes_label _ = false

-- whether a number is one that the operand's bytes hold: one byte or two
abbrev pub fits : Mode → ℕ → Bool
fits mode number = nat_eq (length_of mode) 3 || nat_eq (length_of mode) 2 && nat_lt number 256

-- whether an operand suits a mode
abbrev pub suits : Mode → Operand → Bool
suits mode Nothing = nat_eq (length_of mode) 1
suits mode (Number number) = fits mode number
suits mode (Label label offset) = takes_label mode
suits mode (Low label offset) = is_immediate mode
suits mode (High label offset) = is_immediate mode

-- the label that an operand has
abbrev pub label_of : Operand → Option ℕ
label_of (Label label offset) = Some label
label_of (Low label offset) = Some label
label_of (High label offset) = Some label
label_of _ = None

-- the number that the operand of the instruction at pc names: an address or a byte, and for a branch the place that
-- it goes to
abbrev pub number_of : (ℕ → ℕ) → ℕ → Mode → Operand → ℕ
number_of address pc mode Nothing = 0
number_of address pc mode (Number number) =
    if is_relative mode then (pc + 2 + displacement number) % MEMORY_SIZE else number
number_of address pc mode (Label label offset) = (address label + offset) % MEMORY_SIZE
number_of address pc mode (Low label offset) = (address label + offset) % MEMORY_SIZE % 256
number_of address pc mode (High label offset) = (address label + offset) % MEMORY_SIZE / 256

-- the same as it stands in the bytes after the opcode: for a branch its displacement byte
abbrev pub operand_of : (ℕ → ℕ) → ℕ → Mode → Operand → ℕ
operand_of address pc mode Nothing = 0
operand_of address pc mode (Number number) = number
operand_of address pc mode (Label label offset) =
    if is_relative mode then unwrap_or (branch_byte pc ((address label + offset) % MEMORY_SIZE))
    0 else (address label + offset) % MEMORY_SIZE
operand_of address pc mode (Low label offset) = (address label + offset) % MEMORY_SIZE % 256
operand_of address pc mode (High label offset) = (address label + offset) % MEMORY_SIZE / 256

-- whether the operand is a label that a branch at pc doesn't reach
abbrev pub is_far : (ℕ → ℕ) → ℕ → Mode → Operand → Bool
is_far address pc mode (Label label offset) =
    is_relative mode && not (is_some (branch_byte pc ((address label + offset) % MEMORY_SIZE)))
is_far address pc mode _ = false
