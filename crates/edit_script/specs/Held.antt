-- Why a command was not done, and how a session stands then.
use Rattle.std.specs.Prelude.{◌≡◌, List, ◌∷◌, ◌++◌, Ok, Err}
use Rattle.edit_ops.specs.declared.edits.Edit.{Edit}
use Rattle.edit_history.specs.History.{History, after_edit}
use Rattle.edit_script.specs.declared.commands.Action.{Action}
use Rattle.edit_script.specs.declared.commands.Action.TheVariants as action
use Rattle.edit_script.specs.declared.commands.Command.{Command}
use Rattle.edit_script.specs.declared.kinds.RunFault.{RunFault}
use Rattle.edit_script.specs.declared.kinds.RunKind.{RunKind}
use Rattle.edit_script.specs.declared.kinds.RunKind.TheVariants.{NoMemory}
use Rattle.edit_script.specs.Runs.{Stop, after_action, fold_of}

-- the history doesn't allow it; or it is an edit that could be done, but memory has run out. Undo and redo take none.
pub data IsNotDone (history : History) (what : Action) (kind : RunKind) : Type 0 where
  refused : after_action history what ≡ Err kind → IsNotDone history what kind
  wanting : (edit : Edit) (after : History) → what ≡ action.Edit edit → after_edit history edit ≡ Ok after →
      kind ≡ NoMemory → IsNotDone history what kind

-- the command of the fault's line was not done for the fault's reason, and this history is what the commands before
-- it have made
pub record StopsAt (fault : RunFault) (history : History) (commands : List Command) (after : History) : Type 0 where
  pub earlier : List Command
  pub command : Command
  pub later : List Command
  pub parts : commands ≡ earlier ++ command ∷ later
  pub line_is : command.line ≡ fault.line
  pub done : fold_of history earlier ≡ Ok after
  pub why : IsNotDone after command.action fault.kind

-- where a fault that is answered says that the fold stops
abbrev pub stop_of : RunFault → History → Stop
stop_of fault before = record { line = fault.line; kind = fault.kind; before = before }
