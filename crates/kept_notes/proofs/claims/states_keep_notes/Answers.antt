use Rattle.kept_notes.proofs.Frames.{states_keep_notes_lem}
use Rattle.kept_notes.proofs.claims.states_keep_notes.Goals as goal

pub returns : goal.returns
returns c = states_keep_notes_lem
