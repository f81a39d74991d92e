-- A stretch of lines in a listing: where it stands in memory, where its labels are, and when nothing is wrong with it
-- in any listing around it. This is the assembler's own profile.
use Rattle.std.specs.Prelude.{◌≡◌, ℕ, ◌+◌, ◌<◌, ◌≤◌, ◌⊎◌, Bool, IsTrue, true, false, List}
use Rattle.std.specs.Prelude.{[], ◌∷◌, ◌++◌, Option, Some, None, slice_index}
use Rattle.std.specs.Option.{option_or, option_map}
use Rattle.cpu6502.specs.declared.memory.TheConstants.{MEMORY_SIZE}
use Rattle.cpu6502.specs.declared.mnemonic.Mode.TheVariants.{Relative}
use Rattle.asm6502.specs.declared.lines.Operand.TheVariants.{Label as LabelOf}
use Rattle.asm6502.specs.declared.lines.Item.{Item}
use Rattle.asm6502.specs.declared.lines.Item.TheVariants.{Code}
use Rattle.asm6502.specs.declared.lines.Line.{Line}
use Rattle.asm6502.specs.Lines.{is_kept, kept, size_of, place_of, address_in, label_used, label_named, is_sound, is_no_part}
use Rattle.asm6502.specs.Assembly.{assembled_bytes}
use Rattle.asm6502.specs.Faults.{bad_line, double_label, unknown_label, far_branch, fault_of}
use Rattle.asm6502.specs.Standing.{LinesAt}

-- a memory has these places of the assembled bytes, from one place on, where the first of the bytes is to stand at
-- the origin; what it has elsewhere is no matter
pub record HasBytes (at : ℕ → ℕ) (origin place size : ℕ) (bytes : List ℕ) : Type 0 where
  pub byte : (k : ℕ) → k < size → at (origin + (place + k)) ≡ slice_index bytes (place + k)

-- in any memory that has the bytes of a stretch's kept lines at their place, these lines stand there, with the
-- addresses of the whole listing's labels
abbrev pub StretchesStand : Type 0
StretchesStand =
    (set origin : ℕ) (front stretch back : List Line) (at : ℕ → ℕ) →
    fault_of set origin (front ++ (stretch ++ back)) ≡ None →
    HasBytes at origin (size_of (kept set front)) (size_of (kept set stretch))
    (assembled_bytes set origin (front ++ (stretch ++ back))) →
    LinesAt (address_in (kept set (front ++ (stretch ++ back))) origin) at (origin + size_of (kept set front))
    (kept set stretch)

-- the place of a label in lines one after the other: as in the front, if the front names it, else as in the back,
-- after the front's bytes
abbrev pub PlacesAdd : Type 0
PlacesAdd =
    (front back : List Line) (label : ℕ) →
    place_of (front ++ back) label ≡ option_or (place_of front label)
    (option_map (λ place. size_of front + place) (place_of back label))

-- no two of these lines name one label
pub record NamesNoLabelTwice (lines : List Line) : Type 0 where
  pub once : (front : List Line) (line : Line) (between : List Line) (other : Line) (back : List Line) (label : ℕ) →
      lines ≡ front ++ line ∷ (between ++ other ∷ back) → label_named line.item ≡ Some label →
      label_named other.item ≡ Some label → ⊥

-- no label that one of the front lines names is named by one of the back lines
pub record NamesOthersThan (front back : List Line) : Type 0 where
  pub apart : (before : List Line) (line : Line) (after before' : List Line) (other : Line) (after' : List Line)
      (label : ℕ) → front ≡ before ++ line ∷ after → back ≡ before' ++ other ∷ after' →
      label_named line.item ≡ Some label → label_named other.item ≡ Some label → ⊥

-- two lists of lines, one after the other, name no label twice where neither does and they name different ones
abbrev pub NamesAppend : Type 0
NamesAppend =
    (front back : List Line) → NamesNoLabelTwice front → NamesNoLabelTwice back → NamesOthersThan front back →
    NamesNoLabelTwice (front ++ back)

-- and only there
abbrev pub NamesSplit : Type 0
NamesSplit =
    (front back : List Line) → NamesNoLabelTwice (front ++ back) →
    NamesNoLabelTwice front × NamesNoLabelTwice back × NamesOthersThan front back

-- the address of a label is where the kept line stands that names it
abbrev pub LabelsStandWhereNamed : Type 0
LabelsStandWhereNamed =
    (set origin : ℕ) (front : List Line) (line : Line) (back : List Line) (label : ℕ) →
    NamesNoLabelTwice (front ++ line ∷ back) → is_kept set line ≡ true → label_named line.item ≡ Some label →
    address_in (kept set (front ++ line ∷ back)) origin label ≡ origin + size_of (kept set front)

-- a line names a label, and is kept wherever the line that uses it is
pub record NamesFor (user line : Line) (label : ℕ) : Type 0 where
  pub names : label_named line.item ≡ Some label
  pub kept : (line.part ≡ 255) ⊎ (line.part ≡ user.part)

-- one of these lines does
pub record IsNamedIn (lines : List Line) (user : Line) (label : ℕ) : Type 0 where
  pub front : List Line
  pub line : Line
  pub back : List Line
  pub split : lines ≡ front ++ line ∷ back
  pub named : NamesFor user line label

-- the label and the offset that an item branches to
abbrev pub branch_of : Item → Option (ℕ × ℕ)
branch_of (Code mnemonic Relative (LabelOf label offset)) = Some (label, offset)
branch_of _ = None

-- a label is named in the lines after a branch, at most 127 bytes on
pub record IsReachedAfter (user : Line) (after : List Line) (label : ℕ) : Type 0 where
  pub between : List Line
  pub line : Line
  pub back : List Line
  pub split : after ≡ between ++ line ∷ back
  pub named : NamesFor user line label
  pub near : size_of between ≤ 127

-- a label is named in the lines before a branch, at most 126 bytes back: 128 from the end of the branch
pub record IsReachedBefore (user : Line) (before : List Line) (label : ℕ) : Type 0 where
  pub front : List Line
  pub line : Line
  pub between : List Line
  pub split : before ≡ front ++ line ∷ between
  pub named : NamesFor user line label
  pub near : size_of between ≤ 126

-- a line is at home between those before and after it: it can stand in a listing; the label that it uses is one of
-- the others or is named there; and where it branches to a label, that is named in reach, all lines taken as kept
pub record IsAtHome (others : ℕ → Bool) (before : List Line) (line : Line) (after : List Line) : Type 0 where
  pub part : is_no_part line.part ≡ false
  pub sound : is_sound line.item ≡ true
  pub named : (label : ℕ) → label_used line.item ≡ Some label →
      IsTrue (others label) ⊎ IsNamedIn (before ++ line ∷ after) line label
  pub reach : (label offset : ℕ) → branch_of line.item ≡ Some (label, offset) → (offset ≡ 0)
      × (IsReachedAfter line after label ⊎ IsReachedBefore line before label)

-- each of these lines is, between those before and after all of them
abbrev pub AtHome : (ℕ → Bool) → List Line → List Line → List Line → Type 0
AtHome others before [] after = Unit {0}
AtHome others before (line ∷ rest) after =
    IsAtHome others before line (rest ++ after) × AtHome others (before ++ line ∷ []) rest after

-- two stretches, one after the other
abbrev pub HomesAppend : Type 0
HomesAppend =
    (others : ℕ → Bool) (before front back after : List Line) →
    AtHome others before front (back ++ after) → AtHome others (before ++ front) back after →
    AtHome others before (front ++ back) after

-- with more lines around
abbrev pub HomesGrow : Type 0
HomesGrow =
    (others : ℕ → Bool) (first before lines after last : List Line) →
    AtHome others before lines after → AtHome others (first ++ before) lines (after ++ last)

-- one of these lines names a label, and is always kept
pub record IsNamedAlways (lines : List Line) (label : ℕ) : Type 0 where
  pub front : List Line
  pub line : Line
  pub back : List Line
  pub split : lines ≡ front ++ line ∷ back
  pub names : label_named line.item ≡ Some label
  pub always : line.part ≡ 255

-- a listing names the other labels, in lines that are always kept
pub record NamesOthers (others : ℕ → Bool) (lines : List Line) : Type 0 where
  pub named : (label : ℕ) → IsTrue (others label) → IsNamedAlways lines label

-- no test of a line finds anything wrong with this one, after those before it
pub record Passes (set origin : ℕ) (lines before : List Line) (line : Line) : Type 0 where
  pub bad : bad_line set before line ≡ None
  pub double : double_label set before line ≡ None
  pub unknown : unknown_label set lines before line ≡ None
  pub far : far_branch set origin lines before line ≡ None

-- in any listing that names no label twice and names the others, and fits at its origin, whichever parts are kept,
-- each line of a stretch that is at home in itself passes
abbrev pub StretchesPass : Type 0
StretchesPass =
    (others : ℕ → Bool) (set origin : ℕ) (front stretch back before : List Line) (line : Line) (after : List Line) →
    AtHome others [] stretch [] → NamesNoLabelTwice (front ++ (stretch ++ back)) →
    NamesOthers others (front ++ (stretch ++ back)) →
    origin + size_of (kept set (front ++ (stretch ++ back))) ≤ MEMORY_SIZE → stretch ≡ before ++ line ∷ after →
    Passes set origin (front ++ (stretch ++ back)) (front ++ before) line

-- and where each line of a listing passes, nothing is wrong with the listing
abbrev pub PassedListingsAssemble : Type 0
PassedListingsAssemble =
    (set origin : ℕ) (lines : List Line) → origin + size_of (kept set lines) ≤ MEMORY_SIZE →
    ((before : List Line) (line : Line) (after : List Line) → lines ≡ before ++ line ∷ after →
    Passes set origin lines before line) →
    fault_of set origin lines ≡ None
