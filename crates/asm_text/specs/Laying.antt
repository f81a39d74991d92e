-- The listing of an assembler that the statements of a text name: one line for each, all of them kept. A branch to a
-- number gets the displacement byte that leads there from where it stands.
use Rattle.std.specs.Prelude.{ℕ, ◌+◌, List, [], ◌∷◌, unwrap_or, if◌then◌else◌}
use Rattle.cpu6502.specs.declared.mnemonic.Mode.{Mode}
use Rattle.asm6502.specs.declared.lines.Operand.{Operand as Laid}
use Rattle.asm6502.specs.declared.lines.Operand.TheVariants as laid
use Rattle.asm6502.specs.declared.lines.Item.{Item}
use Rattle.asm6502.specs.declared.lines.Item.TheVariants as item
use Rattle.asm6502.specs.declared.lines.Line.{Line}
use Rattle.asm6502.specs.Operands.{is_relative}
use Rattle.asm6502.specs.Branches.{branch_byte}
use Rattle.asm_text.specs.declared.statements.Operand.{Operand}
use Rattle.asm_text.specs.declared.statements.Operand.TheVariants.{Nothing, Number, Label as LabelOf}
use Rattle.asm_text.specs.declared.statements.Statement.{Statement}
use Rattle.asm_text.specs.declared.statements.Statement.TheVariants.{Label, Byte, Code}
use Rattle.asm_text.specs.declared.statements.Written.{Written}
use Rattle.asm_text.specs.Statements.{size}

-- the operand of the instruction at pc; where a branch reaches its target by no displacement it is no matter which
abbrev pub operand_at : ℕ → Mode → Operand → Laid
operand_at pc mode Nothing = laid.Nothing
operand_at pc mode (Number number) =
    laid.Number (if is_relative mode then unwrap_or (branch_byte pc number) 0 else number)
operand_at pc mode (LabelOf label) = laid.Label label 0

-- the item of a statement at pc
abbrev pub item_at : ℕ → Statement → Item
item_at pc (Label label) = item.Label label
item_at pc (Byte byte) = item.Bytes (byte ∷ [])
item_at pc (Code mnemonic mode operand) = item.Code mnemonic mode (operand_at pc mode operand)

-- its line, which is always kept
abbrev pub line_at : ℕ → Statement → Line
line_at pc statement = record { part = 255; item = item_at pc statement }

-- the lines of statements that stand one after the other from pc on
abbrev pub listing_at : ℕ → List Written → List Line
listing_at pc [] = []
listing_at pc (written ∷ rest) = line_at pc written.statement ∷ listing_at (pc + size written.statement) rest

-- the bytes that statements take
abbrev pub size_of : List Written → ℕ
size_of [] = 0
size_of (written ∷ rest) = size written.statement + size_of rest
