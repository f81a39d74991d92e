use Rattle.kept_notes.proofs.Frames.{notes_within_lem}
use Rattle.kept_notes.proofs.claims.notes_within.Goals as goal

pub returns : goal.returns
returns c = notes_within_lem
