-- The forms of the lines that say what is to be done: a word, and arguments of one byte or more. This project's own
-- table of them.
use Rattle.std.specs.Prelude.{ℕ, List, [], ◌∷◌, codes, map}
use Rattle.edit_ops.specs.declared.edits.Edit.{Edit}
use Rattle.edit_ops.specs.declared.edits.Edit.TheVariants.{SetRow, InsertRow, DeleteRow, SetLength, CopyPattern}
use Rattle.edit_ops.specs.declared.edits.Edit.TheVariants.{TransposePattern, SetOrder, InsertOrder, DeleteOrder}
use Rattle.edit_ops.specs.declared.edits.Edit.TheVariants.{SetRestart, SetInstrument, SetInstrumentName, SetTable}
use Rattle.edit_ops.specs.declared.edits.Edit.TheVariants.{InsertTable, DeleteTable, SetText, AddSubtune, RemoveSubtune}
use Rattle.edit_ops.specs.declared.edits.Edit.TheVariants.{SetPatternCount}
use Rattle.edit_script.specs.declared.commands.Action.{Action}
use Rattle.edit_script.specs.declared.commands.Action.TheVariants as action

-- an argument: how many bytes it has, and the bytes
pub record Argument : Type 0 where
  pub size : ℕ
  pub bytes : List ℕ

-- a number, the name of an instrument, and a text
abbrev pub number : ℕ → Argument
number byte = record { size = 1; bytes = byte ∷ [] }

abbrev pub name : List ℕ → Argument
name bytes = record { size = 16; bytes = bytes }

abbrev pub text : List ℕ → Argument
text bytes = record { size = 32; bytes = bytes }

pub record Form : Type 0 where
  pub word : List ℕ
  pub arguments : List Argument

abbrev pub form : List ℕ → List Argument → Form
form word arguments = record { word = word; arguments = arguments }

abbrev pub numbers : List ℕ → List Argument
numbers bytes = map number bytes

-- the edits, in the order of their table
abbrev pub edit_form : Edit → Form
edit_form (SetRow pattern place row) =
    form (codes "row")
    (numbers (pattern ∷ place ∷ row.note ∷ row.instrument ∷ row.command ∷ row.param ∷ []))
edit_form (InsertRow pattern place row) =
    form (codes "row-insert")
    (numbers (pattern ∷ place ∷ row.note ∷ row.instrument ∷ row.command ∷ row.param ∷ []))
edit_form (DeleteRow pattern place) = form (codes "row-delete") (numbers (pattern ∷ place ∷ []))
edit_form (SetLength pattern length) = form (codes "pattern-length") (numbers (pattern ∷ length ∷ []))
edit_form (CopyPattern from to) = form (codes "pattern-copy") (numbers (from ∷ to ∷ []))
edit_form (TransposePattern pattern by) = form (codes "pattern-transpose") (numbers (pattern ∷ by ∷ []))
edit_form (SetOrder subtune channel place entry) =
    form (codes "order") (numbers (subtune ∷ channel ∷ place ∷ entry ∷ []))
edit_form (InsertOrder subtune channel place entry) =
    form (codes "order-insert") (numbers (subtune ∷ channel ∷ place ∷ entry ∷ []))
edit_form (DeleteOrder subtune channel place) =
    form (codes "order-delete") (numbers (subtune ∷ channel ∷ place ∷ []))
edit_form (SetRestart subtune channel restart) =
    form (codes "order-restart") (numbers (subtune ∷ channel ∷ restart ∷ []))
edit_form (SetInstrument instrument field value) =
    form (codes "instrument") (numbers (instrument ∷ field ∷ value ∷ []))
edit_form (SetInstrumentName instrument bytes) =
    form (codes "instrument-name") (number instrument ∷ name bytes ∷ [])
edit_form (SetTable table row_number row) =
    form (codes "table") (numbers (table ∷ row_number ∷ row.left ∷ row.right ∷ []))
edit_form (InsertTable table row_number row) =
    form (codes "table-insert") (numbers (table ∷ row_number ∷ row.left ∷ row.right ∷ []))
edit_form (DeleteTable table row_number) = form (codes "table-delete") (numbers (table ∷ row_number ∷ []))
edit_form (SetText which bytes) = form (codes "text") (number which ∷ text bytes ∷ [])
edit_form AddSubtune = form (codes "subtune-add") []
edit_form (RemoveSubtune subtune) = form (codes "subtune-remove") (numbers (subtune ∷ []))
edit_form (SetPatternCount count) = form (codes "pattern-count") (numbers (count ∷ []))

abbrev pub form_of : Action → Form
form_of (action.Edit edit) = edit_form edit
form_of action.Undo = form (codes "undo") []
form_of action.Redo = form (codes "redo") []
