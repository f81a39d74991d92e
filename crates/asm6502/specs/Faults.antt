-- What is wrong with a listing: the first of five refusals, in their order, each at its first place in the listing.
-- This is the assembler's own profile.
use Rattle.std.specs.Prelude.{◌≡◌, ℕ, ◌+◌, ◌&&◌, ◌||◌, Bool, false, List, [], ◌∷◌, ◌++◌}
use Rattle.std.specs.Prelude.{length, Option, Some, None, nat_lt, not, if◌then◌else◌}
use Rattle.std.specs.Option.{option_or, option_and_then, is_some}
use Rattle.cpu6502.specs.declared.memory.TheConstants.{MEMORY_SIZE}
use Rattle.asm6502.specs.declared.lines.Item.{Item}
use Rattle.asm6502.specs.declared.lines.Item.TheVariants.{Code}
use Rattle.asm6502.specs.declared.lines.Line.{Line}
use Rattle.asm6502.specs.declared.faults.AsmFault.{AsmFault}
use Rattle.asm6502.specs.declared.faults.AsmFault.TheVariants.{BadLine, DoubleLabel, UnknownLabel, PastEnd, BranchTooFar}
use Rattle.asm6502.specs.Operands.{is_far}
use Rattle.asm6502.specs.Lines.{is_kept, kept, size_of, place_of, address_in, label_used, label_named, is_sound, is_no_part}

-- the first fault that a test of a line finds, where the test sees the lines before it too
abbrev pub first_fault : (List Line → Line → Option AsmFault) → List Line → List Line → Option AsmFault
first_fault test before [] = None
first_fault test before (line ∷ after) = option_or (test before line) (first_fault test (before ++ line ∷ []) after)

-- a line in a part that there isn't, or a kept one that can't stand in a listing
abbrev pub bad_line : ℕ → List Line → Line → Option AsmFault
bad_line set before line =
    if is_no_part line.part || is_kept set line && not (is_sound line.item) then Some
    (BadLine (length before)) else None

-- an item names a label that one of these lines names
abbrev pub double_in : List Line → Item → Option AsmFault
double_in lines item =
    option_and_then (λ label. if is_some (place_of lines label) then Some (DoubleLabel label) else None)
    (label_named item)

-- a kept line names a label that a kept line before it names
abbrev pub double_label : ℕ → List Line → Line → Option AsmFault
double_label set before line = if is_kept set line then double_in (kept set before) line.item else None

-- an item has an operand with a label that none of these lines names
abbrev pub unknown_in : List Line → Item → Option AsmFault
unknown_in lines item =
    option_and_then (λ label. if is_some (place_of lines label) then None else Some (UnknownLabel label))
    (label_used item)

-- a kept line has an operand with a label that no kept line of the listing names
abbrev pub unknown_label : ℕ → List Line → List Line → Line → Option AsmFault
unknown_label set lines before line = if is_kept set line then unknown_in (kept set lines) line.item else None

-- the kept lines don't fit after the origin
abbrev pub past_end : ℕ → ℕ → List Line → Option AsmFault
past_end set origin lines =
    if nat_lt MEMORY_SIZE (origin + size_of (kept set lines)) then Some (PastEnd (size_of (kept set lines))) else None

-- an instruction at pc is a branch to a label that it doesn't reach
abbrev pub is_far_item : (ℕ → ℕ) → ℕ → Item → Bool
is_far_item address pc (Code mnemonic mode operand) = is_far address pc mode operand
is_far_item address pc _ = false

-- a kept line is a branch to a label that no displacement reaches from where it stands
abbrev pub far_by : (ℕ → ℕ) → ℕ → ℕ → List Line → Line → Option AsmFault
far_by address set origin before line =
    if is_kept set line && is_far_item address (origin + size_of (kept set before)) line.item then Some
    (BranchTooFar (length before)) else None

abbrev pub far_branch : ℕ → ℕ → List Line → List Line → Line → Option AsmFault
far_branch set origin lines = far_by (address_in (kept set lines) origin) set origin

-- what is wrong with a listing that is to stand at an origin; none where nothing is
abbrev pub fault_of : ℕ → ℕ → List Line → Option AsmFault
fault_of set origin lines =
    option_or (first_fault (bad_line set) [] lines)
    (option_or (first_fault (double_label set) [] lines)
    (option_or (first_fault (unknown_label set lines) [] lines)
    (option_or (past_end set origin lines)
    (first_fault (far_branch set origin lines) [] lines))))

-- a test finds this fault at a line, and nothing at the lines before it
pub record FoundFirst (test : List Line → Line → Option AsmFault) (lines : List Line) (fault : AsmFault) : Type
    0 where
  pub front : List Line
  pub line : Line
  pub back : List Line
  pub split : lines ≡ front ++ line ∷ back
  pub found : test front line ≡ Some fault
  pub earlier : (before : List Line) (other : Line) (after : List Line) → front ≡ before ++ other ∷ after →
      test before other ≡ None

-- the first fault is found first
abbrev pub FirstIsFirst : Type 0
FirstIsFirst =
    (test : List Line → Line → Option AsmFault) (lines : List Line) (fault : AsmFault) →
    first_fault test [] lines ≡ Some fault → FoundFirst test lines fault

-- there is none exactly where the test finds nothing at any line
abbrev pub NoneIsFound : Type 0
NoneIsFound =
    (test : List Line → Line → Option AsmFault) (lines front : List Line) (line : Line) (back : List Line) →
    first_fault test [] lines ≡ None → lines ≡ front ++ line ∷ back → test front line ≡ None

abbrev pub AllPassed : Type 0
AllPassed =
    (test : List Line → Line → Option AsmFault) (lines : List Line) →
    ((front : List Line) (line : Line) (back : List Line) → lines ≡ front ++ line ∷ back →
    test front line ≡ None) → first_fault test [] lines ≡ None
