-- Numbers in assembled bytes that depend on the origin: where they stand, and what moving the bytes to another origin
-- changes. This is the assembler's own profile.
use Rattle.std.specs.Prelude.{◌≡◌, ℕ, ◌+◌, ◌/◌, ◌%◌, ◌<◌, ◌≤◌, ◌⊎◌, List, []}
use Rattle.std.specs.Prelude.{◌∷◌, length, slice_index, slice_set, ⊤, if◌then◌else◌}
use Rattle.std.specs.Coded.{×_prop, Unit-prop, le_prop}
use Rattle.std.proofs.Math.Nat.{ℕ_set}
use Rattle.cpu6502.specs.declared.memory.TheConstants.{MEMORY_SIZE}
use Rattle.cpu6502.specs.declared.mnemonic.Mode.{Mode}
use Rattle.asm6502.specs.declared.lines.Operand.{Operand}
use Rattle.asm6502.specs.declared.lines.Operand.TheVariants.{Nothing, Number, Label, Low as LowOf, High as HighOf}
use Rattle.asm6502.specs.declared.fixes.Fix.{Fix}
use Rattle.asm6502.specs.declared.fixes.FixKind.{FixKind}
use Rattle.asm6502.specs.declared.fixes.FixKind.TheVariants.{Word, Low, High}
use Rattle.asm6502.specs.Operands.{is_relative}

-- what is to be fixed in an operand whose bytes begin at a place: an address or one byte of it; a branch goes as far
-- at each origin
abbrev pub operand_fixes : (ℕ → ℕ) → ℕ → Mode → Operand → List Fix
operand_fixes place at mode Nothing = []
operand_fixes place at mode (Number number) = []
operand_fixes place at mode (Label label offset) =
    if is_relative mode then [] else record { at = at; kind = Word; to = (place label + offset) % MEMORY_SIZE } ∷ []
operand_fixes place at mode (LowOf label offset) =
    record { at = at; kind = Low; to = (place label + offset) % MEMORY_SIZE } ∷ []
operand_fixes place at mode (HighOf label offset) =
    record { at = at; kind = High; to = (place label + offset) % MEMORY_SIZE } ∷ []

-- the bytes that a number takes
abbrev pub width_of : FixKind → ℕ
width_of Word = 2
width_of Low = 1
width_of High = 1

-- a number stands in bytes at a place
abbrev pub NumberStands : FixKind → List ℕ → ℕ → ℕ → Type 0
NumberStands Word bytes at number =
    (slice_index bytes at ≡ number % 256) × (slice_index bytes (at + 1) ≡ number / 256)
NumberStands Low bytes at number = slice_index bytes at ≡ number % 256
NumberStands High bytes at number = slice_index bytes at ≡ number / 256

-- the bytes with a number put at a place
abbrev pub with_number : FixKind → List ℕ → ℕ → ℕ → List ℕ
with_number Word bytes at number = slice_set (slice_set bytes at (number % 256)) (at + 1) (number / 256)
with_number Low bytes at number = slice_set bytes at (number % 256)
with_number High bytes at number = slice_set bytes at (number / 256)

-- the fixes stand in bytes of this length in ascending places from low on, without overlap
abbrev pub InOrder : ℕ → ℕ → List Fix → Type 0
InOrder low length [] = ⊤
InOrder low length (fix ∷ rest) =
    (low ≤ fix.at) × ((fix.at + width_of fix.kind ≤ length) × InOrder (fix.at + width_of fix.kind) length rest)

-- at the place of each fix stands its number
abbrev pub NumbersStand : ℕ → List ℕ → List Fix → Type 0
NumbersStand origin bytes [] = ⊤
NumbersStand origin bytes (fix ∷ rest) =
    NumberStands fix.kind bytes fix.at ((origin + fix.to) % MEMORY_SIZE) × NumbersStand origin bytes rest

-- the bytes with the number of each fix put at its place
abbrev pub with_numbers : ℕ → List ℕ → List Fix → List ℕ
with_numbers origin bytes [] = bytes
with_numbers origin bytes (fix ∷ rest) =
    with_numbers origin (with_number fix.kind bytes fix.at ((origin + fix.to) % MEMORY_SIZE)) rest

-- a place is one of those that some fix takes
abbrev pub IsFixed : List Fix → ℕ → Type 0
IsFixed [] place = ⊥
IsFixed (fix ∷ rest) place = ((fix.at ≤ place) × (place < fix.at + width_of fix.kind)) ⊎ IsFixed rest place

-- these facts have one proof at most, as a fact that a type keeps must have
pub InOrder-prop : (low length : ℕ) (fixes : List Fix) → IsProp (InOrder low length fixes)
InOrder-prop low length [] = Unit-prop
InOrder-prop low length (fix ∷ rest) =
    ×_prop le_prop (×_prop le_prop (InOrder-prop (fix.at + width_of fix.kind) length rest))

NumberStands-prop : (kind : FixKind) (bytes : List ℕ) (at number : ℕ) → IsProp (NumberStands kind bytes at number)
NumberStands-prop Word bytes at number =
    ×_prop (ℕ_set (slice_index bytes at) (number % 256)) (ℕ_set (slice_index bytes (at + 1)) (number / 256))
NumberStands-prop Low bytes at number = ℕ_set (slice_index bytes at) (number % 256)
NumberStands-prop High bytes at number = ℕ_set (slice_index bytes at) (number / 256)

pub NumbersStand-prop : (origin : ℕ) (bytes : List ℕ) (fixes : List Fix) → IsProp (NumbersStand origin bytes fixes)
NumbersStand-prop origin bytes [] = Unit-prop
NumbersStand-prop origin bytes (fix ∷ rest) =
    ×_prop (NumberStands-prop fix.kind bytes fix.at ((origin + fix.to) % MEMORY_SIZE))
    (NumbersStand-prop origin bytes rest)
