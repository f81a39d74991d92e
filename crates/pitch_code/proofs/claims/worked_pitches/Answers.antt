use Rattle.pitch_code.proofs.claims.worked_pitches.Goals as goal
use Rattle.pitch_code.proofs.WorkedPitches.{notes_are_worked, returns_are_worked, others_are_denied}
use Rattle.pitch_code.proofs.WorkedVoices.{voices_are_worked}

-- src/claims.rt:20:1
pub returns-clause-notes : goal.returns-clause-notes
returns-clause-notes c = notes_are_worked

-- src/claims.rt:20:1
pub returns-clause-returns : goal.returns-clause-returns
returns-clause-returns c = returns_are_worked

-- src/claims.rt:20:1
pub returns-clause-others : goal.returns-clause-others
returns-clause-others c = others_are_denied

pub returns-clause-voices : goal.returns-clause-voices
returns-clause-voices c = voices_are_worked
