-- The bytes of assembled lines, and which of them are addresses. This is the assembler's own profile.
use Rattle.std.specs.Prelude.{ℕ, ◌+◌, List, [], ◌∷◌, ◌++◌, unwrap_or}
use Rattle.cpu6502.specs.declared.mnemonic.Mnemonic.{Mnemonic}
use Rattle.cpu6502.specs.declared.mnemonic.Mode.{Mode}
use Rattle.asm6502.specs.declared.instructions.Instr.{Instr}
use Rattle.asm6502.specs.declared.lines.Operand.{Operand}
use Rattle.asm6502.specs.declared.lines.Item.{Item}
use Rattle.asm6502.specs.declared.lines.Item.TheVariants.{Label, Code, Bytes}
use Rattle.asm6502.specs.declared.lines.Line.{Line}
use Rattle.asm6502.specs.declared.fixes.Fix.{Fix}
use Rattle.asm6502.specs.Instructions.{encoding}
use Rattle.asm6502.specs.Operands.{operand_of}
use Rattle.asm6502.specs.Lines.{kept, item_size, address_in}
use Rattle.asm6502.specs.Fixes.{operand_fixes}

-- the instruction of a line at pc
abbrev pub instr_at : (ℕ → ℕ) → ℕ → Mnemonic → Mode → Operand → Instr
instr_at address pc mnemonic mode operand =
    record { mnemonic = mnemonic; mode = mode; operand = operand_of address pc mode operand }

-- the bytes of an item at pc
abbrev pub item_bytes : (ℕ → ℕ) → ℕ → Item → List ℕ
item_bytes address pc (Label label) = []
item_bytes address pc (Code mnemonic mode operand) =
    unwrap_or (encoding (instr_at address pc mnemonic mode operand)) []
item_bytes address pc (Bytes bytes) = bytes

-- what items give by the place at which their bytes begin, in lines that stand one after the other from a place on
abbrev pub along : {X : Type 0} → (ℕ → Item → List X) → ℕ → List Line → List X
along given place [] = []
along given place (line ∷ rest) = given place line.item ++ along given (place + item_size line.item) rest

-- the bytes of lines that stand one after the other from pc on
abbrev pub bytes_of : (ℕ → ℕ) → ℕ → List Line → List ℕ
bytes_of address = along (item_bytes address)

-- what is to be fixed in an item whose bytes begin at a place
abbrev pub item_fixes : (ℕ → ℕ) → ℕ → Item → List Fix
item_fixes place at (Code mnemonic mode operand) = operand_fixes place (at + 1) mode operand
item_fixes place at _ = []

-- what is to be fixed in lines whose bytes begin at a place
abbrev pub fixes_of : (ℕ → ℕ) → ℕ → List Line → List Fix
fixes_of place = along (item_fixes place)

-- the bytes of a listing that is assembled at an origin with a set, and its fixes, which no origin changes
abbrev pub assembled_bytes : ℕ → ℕ → List Line → List ℕ
assembled_bytes set origin lines = bytes_of (address_in (kept set lines) origin) origin (kept set lines)

abbrev pub assembled_fixes : ℕ → List Line → List Fix
assembled_fixes set lines = fixes_of (address_in (kept set lines) 0) 0 (kept set lines)
