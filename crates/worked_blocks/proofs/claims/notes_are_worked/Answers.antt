-- A packed song of one note in memory.
use Rattle.worked_blocks.proofs.claims.notes_are_worked.Goals as goal
use Rattle.worked_blocks.proofs.WorkedNote.{notes_are_worked}

pub returns : goal.returns
returns c = notes_are_worked
