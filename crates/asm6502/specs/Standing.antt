-- Lines of a listing that stand in memory, as they are decoded and not as bytes: the form in which a program that was
-- assembled is reasoned about.
use Rattle.std.specs.Prelude.{◌≡◌, ℕ, ◌+◌, ◌<◌, ◌≤◌, List, [], ◌∷◌, ◌++◌, length}
use Rattle.std.specs.Prelude.{slice_index, None}
use Rattle.cpu6502.specs.declared.memory.TheConstants.{MEMORY_SIZE}
use Rattle.cpu6502.specs.Code.{Holds}
use Rattle.code_runs.specs.Code.{Stands}
use Rattle.asm6502.specs.declared.lines.Item.{Item}
use Rattle.asm6502.specs.declared.lines.Item.TheVariants.{Label, Code, Bytes}
use Rattle.asm6502.specs.declared.lines.Line.{Line}
use Rattle.asm6502.specs.Operands.{number_of}
use Rattle.asm6502.specs.Lines.{kept, item_size, size_of, address_in}
use Rattle.asm6502.specs.Assembly.{assembled_bytes}
use Rattle.asm6502.specs.Faults.{fault_of}

-- these bytes stand in a memory from a place on
pub record BytesStand (at : ℕ → ℕ) (place : ℕ) (bytes : List ℕ) : Type 0 where
  pub byte : (k : ℕ) → k < length bytes → at (place + k) ≡ slice_index bytes k

-- what a machine's memory holds stands in it
abbrev pub HeldBytesStand : Type 0
HeldBytesStand = (memory : List ℕ) (address : ℕ) (bytes : List ℕ) → Holds memory address bytes →
    BytesStand (slice_index memory) address bytes

-- an item stands at pc: a label has this address; an instruction decodes, by the machine's own table, to its name and
-- mode, with the number that its operand names, so a branch goes to its label; bytes are there
abbrev pub ItemAt : (ℕ → ℕ) → (ℕ → ℕ) → ℕ → Item → Type 0
ItemAt address at pc (Label label) = address label ≡ pc
ItemAt address at pc (Code mnemonic mode operand) = Stands at pc mnemonic mode (number_of address pc mode operand)
ItemAt address at pc (Bytes bytes) = BytesStand at pc bytes

-- lines stand from pc on, one after the other
abbrev pub LinesAt : (ℕ → ℕ) → (ℕ → ℕ) → ℕ → List Line → Type 0
LinesAt address at pc [] = Unit {0}
LinesAt address at pc (line ∷ rest) =
    ItemAt address at pc line.item × LinesAt address at (pc + item_size line.item) rest

-- in any memory that holds these bytes from the origin on, the kept lines of a listing stand there, with the
-- addresses of its labels
abbrev pub KeptLinesStand : ℕ → ℕ → List Line → List ℕ → Type 0
KeptLinesStand set origin lines bytes =
    (at : ℕ → ℕ) → BytesStand at origin bytes →
    LinesAt (address_in (kept set lines) origin) at origin (kept set lines)

-- where nothing is wrong with a listing, its bytes are such
abbrev pub AssembledLinesStand : Type 0
AssembledLinesStand =
    (set origin : ℕ) (lines : List Line) → fault_of set origin lines ≡ None →
    KeptLinesStand set origin lines (assembled_bytes set origin lines)

-- two lists of lines, one after the other, take the bytes of both
abbrev pub SizesAdd : Type 0
SizesAdd = (front back : List Line) → size_of (front ++ back) ≡ size_of front + size_of back

-- the kept lines of both are those of the one and of the other
abbrev pub KeptAppend : Type 0
KeptAppend = (set : ℕ) (front back : List Line) → kept set (front ++ back) ≡ kept set front ++ kept set back

-- where both stand, the front stands at the same place, and the back after it; and the other way
abbrev pub FrontsStand : Type 0
FrontsStand = (address at : ℕ → ℕ) (pc : ℕ) (front back : List Line) → LinesAt address at pc (front ++ back) →
    LinesAt address at pc front

abbrev pub BacksStand : Type 0
BacksStand =
    (address at : ℕ → ℕ) (pc : ℕ) (front back : List Line) → LinesAt address at pc (front ++ back) →
    LinesAt address at (pc + size_of front) back

abbrev pub BothStand : Type 0
BothStand =
    (address at : ℕ → ℕ) (pc : ℕ) (front back : List Line) → LinesAt address at pc front →
    LinesAt address at (pc + size_of front) back → LinesAt address at pc (front ++ back)

-- lines stay where their bytes stay
abbrev pub LinesStay : Type 0
LinesStay =
    (address at at' : ℕ → ℕ) (pc : ℕ) (lines : List Line) → pc + size_of lines ≤ MEMORY_SIZE →
    ((place : ℕ) → pc ≤ place → place < pc + size_of lines → at' place ≡ at place) → LinesAt address at pc lines →
    LinesAt address at' pc lines
