-- A voice in a frame, worked by hand.
use Rattle.voice_code.proofs.claims.worked_voices.Goals as goal
use Rattle.voice_code.proofs.WorkedVoice.{voices_are_worked, others_are_denied}

pub returns-clause-runs : goal.returns-clause-runs
returns-clause-runs c = voices_are_worked

pub returns-clause-others : goal.returns-clause-others
returns-clause-others c = others_are_denied
