use Rattle.edit_history.proofs.StepLaws.{redo_undoes_undo, undo_undoes_redo}
use Rattle.edit_history.proofs.claims.steps_lead_back.Goals as goal

pub returns : goal.returns
returns c = record { redo = redo_undoes_undo; undo = undo_undoes_redo }
