-- How a line is read: its word, its arguments by their sizes, and what the two make.
use Rattle.std.specs.Prelude.{ℕ, ◌*◌, ◌==◌, ◌&&◌, nat_le, if◌then◌else◌, List, [], ◌∷◌}
use Rattle.std.specs.Prelude.{◌++◌, length, map, take, drop, slice_index, Option, Some, None}
use Rattle.std.specs.Result.{result_ok}
use Rattle.std.specs.List.{position_or_len, find}
use Rattle.std.specs.Str.{bytes_eq}
use Rattle.hex.specs.Hex.{decode_sized}
use Rattle.song_model.specs.declared.rows.Row.{Row}
use Rattle.song_model.specs.declared.tables.TableRow.{TableRow}
use Rattle.edit_ops.specs.declared.edits.Edit.TheVariants.{SetRow, InsertRow, DeleteRow, SetLength, CopyPattern}
use Rattle.edit_ops.specs.declared.edits.Edit.TheVariants.{TransposePattern, SetOrder, InsertOrder, DeleteOrder}
use Rattle.edit_ops.specs.declared.edits.Edit.TheVariants.{SetRestart, SetInstrument, SetInstrumentName, SetTable}
use Rattle.edit_ops.specs.declared.edits.Edit.TheVariants.{InsertTable, DeleteTable, SetText, AddSubtune, RemoveSubtune}
use Rattle.edit_ops.specs.declared.edits.Edit.TheVariants.{SetPatternCount}
use Rattle.edit_script.specs.declared.commands.Action.{Action}
use Rattle.edit_script.specs.declared.commands.Action.TheVariants as action
use Rattle.edit_script.specs.declared.forms.Keyword.{Keyword}
use Rattle.edit_script.specs.declared.forms.Keyword.TheVariants.{Row as KRow, RowInsert, RowDelete, PatternLength}
use Rattle.edit_script.specs.declared.forms.Keyword.TheVariants.{PatternCopy, PatternTranspose, Order, OrderInsert}
use Rattle.edit_script.specs.declared.forms.Keyword.TheVariants.{OrderDelete, OrderRestart, Instrument, InstrumentName}
use Rattle.edit_script.specs.declared.forms.Keyword.TheVariants.{Table, TableInsert, TableDelete, Text, SubtuneAdd}
use Rattle.edit_script.specs.declared.forms.Keyword.TheVariants.{SubtuneRemove, PatternCount, Undo, Redo}
use Rattle.edit_script.specs.Forms.{Argument, form_of}

-- the next part is read where this one was
infixl 10 ◌>>=◌
abbrev pub ◌>>=◌ : {A B : Type 0} → Option A → (A → Option B) → Option B
(Some x) >>= f = f x
None >>= f = None

-- the rows in the arguments' bytes
abbrev pub row_in : List ℕ → Row
row_in bytes = record {
  note = slice_index bytes 2;
  instrument = slice_index bytes 3;
  command = slice_index bytes 4;
  param = slice_index bytes 5;
}

abbrev pub table_row_in : List ℕ → TableRow
table_row_in bytes = record { left = slice_index bytes 2; right = slice_index bytes 3 }

-- what a keyword and the bytes of its arguments make
unfoldable pub made : Keyword → List ℕ → Action
made KRow bytes = action.Edit (SetRow (slice_index bytes 0) (slice_index bytes 1) (row_in bytes))
made RowInsert bytes = action.Edit (InsertRow (slice_index bytes 0) (slice_index bytes 1) (row_in bytes))
made RowDelete bytes = action.Edit (DeleteRow (slice_index bytes 0) (slice_index bytes 1))
made PatternLength bytes = action.Edit (SetLength (slice_index bytes 0) (slice_index bytes 1))
made PatternCopy bytes = action.Edit (CopyPattern (slice_index bytes 0) (slice_index bytes 1))
made PatternTranspose bytes = action.Edit (TransposePattern (slice_index bytes 0) (slice_index bytes 1))
made Order bytes =
    action.Edit (SetOrder (slice_index bytes 0) (slice_index bytes 1) (slice_index bytes 2) (slice_index bytes 3))
made OrderInsert bytes =
    action.Edit (InsertOrder (slice_index bytes 0) (slice_index bytes 1) (slice_index bytes 2) (slice_index bytes 3))
made OrderDelete bytes =
    action.Edit (DeleteOrder (slice_index bytes 0) (slice_index bytes 1) (slice_index bytes 2))
made OrderRestart bytes =
    action.Edit (SetRestart (slice_index bytes 0) (slice_index bytes 1) (slice_index bytes 2))
made Instrument bytes =
    action.Edit (SetInstrument (slice_index bytes 0) (slice_index bytes 1) (slice_index bytes 2))
made InstrumentName bytes = action.Edit (SetInstrumentName (slice_index bytes 0) (take 16 (drop 1 bytes)))
made Table bytes = action.Edit (SetTable (slice_index bytes 0) (slice_index bytes 1) (table_row_in bytes))
made TableInsert bytes = action.Edit (InsertTable (slice_index bytes 0) (slice_index bytes 1) (table_row_in bytes))
made TableDelete bytes = action.Edit (DeleteTable (slice_index bytes 0) (slice_index bytes 1))
made Text bytes = action.Edit (SetText (slice_index bytes 0) (take 32 (drop 1 bytes)))
made SubtuneAdd bytes = action.Edit AddSubtune
made SubtuneRemove bytes = action.Edit (RemoveSubtune (slice_index bytes 0))
made PatternCount bytes = action.Edit (SetPatternCount (slice_index bytes 0))
made Undo bytes = action.Undo
made Redo bytes = action.Redo

-- a keyword's word, and how many bytes its arguments have: by the table, of what it makes
unfoldable pub word_of : Keyword → List ℕ
word_of keyword = (form_of (made keyword [])).word

unfoldable pub sizes_of : Keyword → List ℕ
sizes_of keyword = map (λ (argument : Argument). argument.size) (form_of (made keyword [])).arguments

abbrev pub keywords : List Keyword
keywords =
    KRow ∷ RowInsert ∷ RowDelete ∷ PatternLength ∷ PatternCopy ∷ PatternTranspose ∷ Order ∷ OrderInsert ∷
    OrderDelete ∷ OrderRestart ∷ Instrument ∷ InstrumentName ∷ Table ∷ TableInsert ∷ TableDelete ∷ Text ∷
    SubtuneAdd ∷ SubtuneRemove ∷ PatternCount ∷ Undo ∷ Redo ∷ []

unfoldable pub keyword_at : List ℕ → Option Keyword
keyword_at word = find (λ keyword. bytes_eq (word_of keyword) word) keywords

-- the bytes of an argument of this size at the front of a text, and what stands behind it
unfoldable pub argument_at : ℕ → List ℕ → Option (List ℕ × List ℕ)
argument_at size [] = None
argument_at size (first ∷ behind) =
    if first == 32 && nat_le (2 * size) (length behind) then
    result_ok (decode_sized (take (2 * size) behind) size) >>= (λ bytes. Some (bytes, drop (2 * size) behind))
    else None

-- the bytes of arguments of these sizes that are a text
unfoldable pub arguments_at : List ℕ → List ℕ → Option (List ℕ)
arguments_at [] text = if length text == 0 then Some [] else None
arguments_at (size ∷ sizes) text = do
  first ← argument_at size text
  others ← arguments_at sizes first.1
  Some (first.0 ++ others)

-- where the word of a line ends: before the first space
abbrev pub word_end : List ℕ → ℕ
word_end line = position_or_len (λ byte. byte == 32) line

-- what a line spells
unfoldable pub action_in : List ℕ → Option Action
action_in line = do
  keyword ← keyword_at (take (word_end line) line)
  bytes ← arguments_at (sizes_of keyword) (drop (word_end line) line)
  Some (made keyword bytes)
