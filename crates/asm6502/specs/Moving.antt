-- An assembled listing at another origin. This is the assembler's own profile.
use Rattle.std.specs.Prelude.{◌≡◌, ℕ, List, length, slice_index, None}
use Rattle.asm6502.specs.declared.lines.Line.{Line}
use Rattle.asm6502.specs.declared.assembled.Assembled.{Assembled}
use Rattle.asm6502.specs.Fixes.{with_numbers, IsFixed}
use Rattle.asm6502.specs.Assembly.{assembled_bytes, assembled_fixes}
use Rattle.asm6502.specs.Faults.{fault_of}

-- the same at another origin: each fix has its new number, and the other bytes and the fixes stay
pub record IsMoved (old new : Assembled) (origin : ℕ) : Type 0 where
  pub origin_is : new.origin ≡ origin
  pub fixes_stay : new.fixes ≡ old.fixes
  pub bytes_are : new.bytes ≡ with_numbers origin old.bytes old.fixes
  pub others_stay : (place : ℕ) → (IsFixed old.fixes place → ⊥) →
      slice_index new.bytes place ≡ slice_index old.bytes place
  pub size_stays : length new.bytes ≡ length old.bytes

-- what the kept lines of a listing give at an origin
pub record IsAssembly (result : Assembled) (set origin : ℕ) (lines : List Line) : Type 0 where
  pub origin_is : result.origin ≡ origin
  pub bytes_are : result.bytes ≡ assembled_bytes set origin lines
  pub fixes_are : result.fixes ≡ assembled_fixes set lines

-- wherever it is moved, it is what assembling the listing there gives
abbrev pub MovesAsAssembled : ℕ → List Line → Assembled → Type 0
MovesAsAssembled set lines result =
    (other : ℕ) (moved : Assembled) → IsMoved result moved other → IsAssembly moved set other lines
    × (fault_of set other lines ≡ None)
