-- What the commands of a script make of a history: they are done one after the other, up to the first that can't be.
use Rattle.std.specs.Prelude.{ℕ, List, [], ◌∷◌, Option, Some, None, Result, Ok, Err}
use Rattle.edit_ops.specs.declared.edits.EditFault.{EditFault}
use Rattle.edit_ops.specs.declared.edits.EditFault.TheVariants as edit
use Rattle.edit_history.specs.History.{History, after_edit, after_undo, after_redo}
use Rattle.edit_script.specs.declared.commands.Action.{Action}
use Rattle.edit_script.specs.declared.commands.Action.TheVariants as action
use Rattle.edit_script.specs.declared.commands.Command.{Command}
use Rattle.edit_script.specs.declared.kinds.RunKind.{RunKind}
use Rattle.edit_script.specs.declared.kinds.RunKind.TheVariants.{NoSuchPlace, OutOfLimit, BadValue, NothingToUndo}
use Rattle.edit_script.specs.declared.kinds.RunKind.TheVariants.{NothingToRedo, NoMemory}

-- why an edit can't be done
abbrev pub kind_of : EditFault → RunKind
kind_of edit.NoSuchPlace = NoSuchPlace
kind_of edit.OutOfLimit = OutOfLimit
kind_of edit.BadValue = BadValue
kind_of edit.NoMemory = NoMemory

abbrev pub edit_done : Result History EditFault → Result History RunKind
edit_done (Ok after) = Ok after
edit_done (Err fault) = Err (kind_of fault)

abbrev pub step_done : RunKind → Option History → Result History RunKind
step_done kind (Some after) = Ok after
step_done kind None = Err kind

-- what is done to a history, or why it can't be
unfoldable pub after_action : History → Action → Result History RunKind
after_action history (action.Edit edit) = edit_done (after_edit history edit)
after_action history action.Undo = step_done NothingToUndo (after_undo history)
after_action history action.Redo = step_done NothingToRedo (after_redo history)

-- the line of the command that can't be done, why, and what the commands before it have made
pub record Stop : Type 0 where
  pub line : ℕ
  pub kind : RunKind
  pub before : History

abbrev pub fold_on : History → ℕ → Result History RunKind → (History → Result History Stop) → Result History Stop
fold_on history line (Ok after) others = others after
fold_on history line (Err kind) others = Err (record { line = line; kind = kind; before = history })

-- the history after these commands, or where they stop
abbrev pub fold_of : History → List Command → Result History Stop
fold_of history [] = Ok history
fold_of history (command ∷ commands) =
    fold_on history command.line (after_action history command.action) (λ after. fold_of after commands)
