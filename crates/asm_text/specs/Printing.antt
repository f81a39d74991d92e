-- The listing of an image: its instructions by the decode table, one after the other, and bytes where none stands. This
-- is the project's own notation.
use Rattle.std.specs.Prelude.{ℕ, zero, suc, ◌+◌, ◌*◌, ◌%◌, ◌≤◌, List, [], ◌∷◌, ◌++◌}
use Rattle.std.specs.Prelude.{length, drop, Option, Some, None, nat_eq, if◌then◌else◌, slice_index}
use Rattle.cpu6502.specs.declared.memory.TheConstants.{MEMORY_SIZE}
use Rattle.cpu6502.specs.Opcodes.{length_of}
use Rattle.cpu6502.specs.Effects.{displacement}
use Rattle.asm6502.specs.declared.instructions.Instr.{Instr}
use Rattle.asm6502.specs.Instructions.{decoding}
use Rattle.asm6502.specs.Operands.{is_relative}
use Rattle.asm_text.specs.declared.statements.Operand.{Operand}
use Rattle.asm_text.specs.declared.statements.Operand.TheVariants.{Nothing, Number}
use Rattle.asm_text.specs.declared.statements.Statement.{Statement}
use Rattle.asm_text.specs.declared.statements.Statement.TheVariants.{Byte, Code}
use Rattle.asm_text.specs.Statements.{size, spelling, origin_text}

-- the target of a branch at pc: its address plus 2 plus its displacement, mod 65,536
abbrev pub target_of : ℕ → ℕ → ℕ
target_of pc byte = (pc + 2 + displacement byte) % MEMORY_SIZE

-- the operand of an instruction at pc as it is written
abbrev pub operand_written : ℕ → Instr → Operand
operand_written pc instr =
    if nat_eq (length_of instr.mode) 1 then Nothing
    else if is_relative instr.mode then Number (target_of pc instr.operand) else Number instr.operand

-- an instruction that bytes at pc decode to, or else their first byte
abbrev pub statement_for : ℕ → List ℕ → Option (Instr × ℕ) → Statement
statement_for pc bytes (Some found) = Code found.0.mnemonic found.0.mode (operand_written pc found.0)
statement_for pc bytes None = Byte (slice_index bytes 0)

abbrev pub statement_of : ℕ → List ℕ → Statement
statement_of pc bytes = statement_for pc bytes (decoding bytes)

-- the statements of bytes at pc, one behind the other, at most so many
abbrev pub statements_of : ℕ → ℕ → List ℕ → List Statement
statements_of zero pc bytes = []
statements_of (suc most) pc [] = []
statements_of (suc most) pc (byte ∷ rest) =
    statement_of pc (byte ∷ rest) ∷ statements_of most (pc + size (statement_of pc (byte ∷ rest)))
    (drop (size (statement_of pc (byte ∷ rest))) (byte ∷ rest))

-- lines, each of which a line feed ends
abbrev pub lines_of : List Statement → List ℕ
lines_of [] = []
lines_of (statement ∷ rest) = (spelling statement ++ 10 ∷ []) ++ lines_of rest

-- the line of the origin, and one for each statement; each takes a byte at least, so there are no more than bytes
abbrev pub listing_of : ℕ → List ℕ → List ℕ
listing_of origin image = (origin_text origin ++ 10 ∷ []) ++ lines_of (statements_of (length image) origin image)

-- at most 10 bytes for each byte of the image, and the line of the origin; bytes that stand for no instruction take so
-- many
abbrev pub ListingsAreShort : Type 0
ListingsAreShort = (origin : ℕ) (image : List ℕ) → length (listing_of origin image) ≤ 10 + 10 * length image
