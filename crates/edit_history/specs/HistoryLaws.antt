-- Laws of undo and redo.
use Rattle.std.specs.Prelude.{◌≡◌, Some}
use Rattle.edit_history.specs.History.{History, after_undo, after_redo}

-- what was undone is redone to the same history
abbrev pub RedoUndoesUndo : Type 0
RedoUndoesUndo = (history undone : History) → after_undo history ≡ Some undone → after_redo undone ≡ Some history

-- and what was redone is undone
abbrev pub UndoUndoesRedo : Type 0
UndoUndoesRedo = (history redone : History) → after_redo history ≡ Some redone → after_undo redone ≡ Some history
