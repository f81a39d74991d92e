-- The bytes of lines by part: how many there are of each, and which are kept. This is the assembler's own profile.
use Rattle.std.specs.Prelude.{◌≡◌, ℕ, zero, suc, ◌+◌, true, false, List, [], ◌∷◌, ◌++◌, All}
use Rattle.std.specs.Prelude.{nat_eq, if◌then◌else◌}
use Rattle.std.specs.Int.{bit_at}
use Rattle.asm6502.specs.declared.lines.Line.{Line}
use Rattle.asm6502.specs.Lines.{is_part_kept, kept, item_size, size_of}

-- the bytes that the lines of a part take
abbrev pub part_size : ℕ → List Line → ℕ
part_size part [] = 0
part_size part (line ∷ rest) = (if nat_eq line.part part then item_size line.item else 0) + part_size part rest

-- the bytes that the lines of the parts below n take whose bits are in a set
abbrev pub sizes_below : ℕ → ℕ → List Line → ℕ
sizes_below set zero lines = 0
sizes_below set (suc part) lines =
    sizes_below set part lines + (if nat_eq (bit_at set part) 1 then part_size part lines else 0)

-- the kept lines take the bytes of part 255 and of each part whose bit is in the set
abbrev pub PartsAddUp : Type 0
PartsAddUp = (set : ℕ) (lines : List Line) → size_of (kept set lines) ≡ part_size 255 lines + sizes_below set 32 lines

-- two lists of lines, one after the other, take the bytes of both in each part
abbrev pub PartSizesAdd : Type 0
PartSizesAdd =
    (part : ℕ) (front back : List Line) → part_size part (front ++ back) ≡ part_size part front + part_size part back

-- lines of one part are all there or none is
pub record StandsTogether (set part : ℕ) (lines : List Line) : Type 0 where
  pub all : is_part_kept set part ≡ true → kept set lines ≡ lines
  pub none : is_part_kept set part ≡ false → kept set lines ≡ []

abbrev pub PartsStandTogether : Type 0
PartsStandTogether = (set part : ℕ) (lines : List Line) → All (λ line. line.part ≡ part) lines →
    StandsTogether set part lines
