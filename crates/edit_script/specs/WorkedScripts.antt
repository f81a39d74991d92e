-- Lines and scripts that were worked out by hand.
use Rattle.std.specs.Prelude.{ℕ, List, [], ◌∷◌, ◌++◌, codes, replicate}
use Rattle.edit_ops.specs.declared.edits.Edit.{Edit}
use Rattle.edit_ops.specs.declared.edits.Edit.TheVariants.{SetRow, InsertRow, DeleteRow, SetLength, CopyPattern}
use Rattle.edit_ops.specs.declared.edits.Edit.TheVariants.{TransposePattern, SetOrder, InsertOrder, DeleteOrder}
use Rattle.edit_ops.specs.declared.edits.Edit.TheVariants.{SetRestart, SetInstrument, SetInstrumentName, SetTable}
use Rattle.edit_ops.specs.declared.edits.Edit.TheVariants.{InsertTable, DeleteTable, SetText, AddSubtune, RemoveSubtune}
use Rattle.edit_ops.specs.declared.edits.Edit.TheVariants.{SetPatternCount}
use Rattle.edit_script.specs.declared.commands.Action.TheVariants as action
use Rattle.edit_script.specs.Spells.{Spells, IsLine}
use Rattle.edit_script.specs.Scripts.{IsScript, IsFirstBadLine}

abbrev pub SpellsEdit : List ℕ → Edit → Type 0
SpellsEdit line edit = Spells line (action.Edit edit)

-- the arguments in their order, in digits of either case
abbrev pub RowIsRead : Type 0
RowIsRead =
    SpellsEdit (codes "row 0a 1F 60 01 0B fF")
    (SetRow 0x0A 0x1F (record { note = 0x60; instrument = 1; command = 0x0B; param = 0xFF }))

-- the other words, each with its arguments in their order
abbrev pub EditsAreRead : Type 0
EditsAreRead =
    SpellsEdit (codes "row-insert 01 02 60 03 04 05")
    (InsertRow 1 2 (record { note = 0x60; instrument = 3; command = 4; param = 5 }))
    × SpellsEdit (codes "row-delete 01 02") (DeleteRow 1 2)
    × SpellsEdit (codes "pattern-length 01 40") (SetLength 1 0x40)
    × SpellsEdit (codes "pattern-copy 01 02") (CopyPattern 1 2)
    × SpellsEdit (codes "pattern-transpose 01 F4") (TransposePattern 1 0xF4)
    × SpellsEdit (codes "order 01 02 03 04") (SetOrder 1 2 3 4)
    × SpellsEdit (codes "order-insert 01 02 03 04") (InsertOrder 1 2 3 4)
    × SpellsEdit (codes "order-delete 01 02 03") (DeleteOrder 1 2 3)
    × SpellsEdit (codes "order-restart 01 02 03") (SetRestart 1 2 3)
    × SpellsEdit (codes "instrument 3f 08 Ff") (SetInstrument 0x3F 8 0xFF)
    × SpellsEdit (codes "table 01 02 03 04") (SetTable 1 2 (record { left = 3; right = 4 }))
    × SpellsEdit (codes "table-insert 01 02 03 04") (InsertTable 1 2 (record { left = 3; right = 4 }))
    × SpellsEdit (codes "table-delete 01 02") (DeleteTable 1 2)
    × SpellsEdit (codes "subtune-remove 01") (RemoveSubtune 1)
    × SpellsEdit (codes "pattern-count D0") (SetPatternCount 0xD0)

-- a name has 32 digits, a text 64
abbrev pub NamesAreRead : Type 0
NamesAreRead =
    SpellsEdit (codes "instrument-name 01 6C656164000000000000000000000000")
    (SetInstrumentName 1 (codes "lead" ++ replicate 12 0))
    × SpellsEdit (codes "text 02 " ++ replicate 64 0x34) (SetText 2 (replicate 32 0x44))

-- words without an argument
abbrev pub WordsAreRead : Type 0
WordsAreRead = Spells (codes "undo") action.Undo × Spells (codes "redo") action.Redo
    × SpellsEdit (codes "subtune-add") AddSubtune

-- a tab, two blanks, a blank at the end, one in front, and no blank before an argument
abbrev pub OneBlankIsWanted : Type 0
OneBlankIsWanted = (¬ IsLine (codes "row-delete" ++ 9 ∷ codes "00 00")) × (¬ IsLine (codes "row-delete  00 00"))
    × (¬ IsLine (codes "undo ")) × (¬ IsLine (codes " undo")) × (¬ IsLine (codes "row-delete00 00"))

-- one digit, three, another byte for a digit; 63 and 65 digits for a text, 31 and 34 for a name
abbrev pub DigitsAreCounted : Type 0
DigitsAreCounted = (¬ IsLine (codes "row-delete 0 00")) × (¬ IsLine (codes "row-delete 000 00"))
    × (¬ IsLine (codes "row-delete 0g 00")) × (¬ IsLine (codes "text 02 " ++ replicate 63 0x34))
    × (¬ IsLine (codes "text 02 " ++ replicate 65 0x34)) × (¬ IsLine (codes "instrument-name 01 " ++ replicate 31 0x34))
    × (¬ IsLine (codes "instrument-name 01 " ++ replicate 34 0x34))

-- an argument too few, and one too many; another word, one in upper case, and the front of one
abbrev pub FormsAreKept : Type 0
FormsAreKept = (¬ IsLine (codes "row-delete 00")) × (¬ IsLine (codes "undo 00")) × (¬ IsLine (codes "rows"))
    × (¬ IsLine (codes "Undo")) × (¬ IsLine (codes "ro")) × (¬ IsLine (codes "ROW-DELETE 00 00"))
    × (¬ IsLine (codes "row 00 00 60 01 00")) × (¬ IsLine (codes "text 02")) × (¬ IsLine (codes "row-delete"))

-- a zero byte, one above the letters, a tab at either end, a return, a comment behind a blank or an action
abbrev pub BytesAreKept : Type 0
BytesAreKept = (¬ IsLine (codes "undo" ++ 0 ∷ [])) × (¬ IsLine (0xFF ∷ [])) × (¬ IsLine (9 ∷ codes "undo"))
    × (¬ IsLine (codes "undo" ++ 9 ∷ [])) × (¬ IsLine (codes "undo" ++ 13 ∷ [])) × (¬ IsLine (codes " # undo"))
    × (¬ IsLine (codes "undo # undo")) × (¬ IsLine (codes " "))

-- lines that say nothing are counted; a line may end with a carriage return and a line feed, and the last one with
-- nothing
abbrev pub LinesAreCounted : Type 0
LinesAreCounted =
    IsScript
    (codes "# bass\n\ntable-insert 00 01 21 00" ++ 13 ∷ 10 ∷ codes "undo\n" ++ 13 ∷ 10 ∷ codes "row-delete 01 00")
    (record { line = 3; action = action.Edit (InsertTable 0 1 (record { left = 0x21; right = 0 })) } ∷
    record { line = 4; action = action.Undo } ∷
    record { line = 6; action = action.Edit (DeleteRow 1 0) } ∷ [])

-- a text without a byte, one of line feeds alone, and one of a comment alone
abbrev pub NothingIsAScript : Type 0
NothingIsAScript = IsScript [] [] × IsScript (codes "\n\n") [] × IsScript (codes "#") []

-- of two carriage returns one stays, and so does one at the end of a last line without a line feed; a comment may
-- have any
abbrev pub ReturnsAreKept : Type 0
ReturnsAreKept = IsFirstBadLine (codes "redo\nundo" ++ 13 ∷ 13 ∷ 10 ∷ []) 2
    × IsFirstBadLine (codes "undo" ++ 13 ∷ []) 1 × IsScript (codes "# undo" ++ 13 ∷ []) [] × IsFirstBadLine (13 ∷ []) 1

-- of two bad lines it is the first one
abbrev pub FirstIsNamed : Type 0
FirstIsNamed = IsFirstBadLine (codes "undo\nrows\n\nrows") 2
