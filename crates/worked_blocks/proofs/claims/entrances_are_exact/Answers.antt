-- What the definitions take and refuse.
use Rattle.worked_blocks.proofs.claims.entrances_are_exact.Goals as goal
use Rattle.worked_blocks.proofs.WorkedFrames.{entrances_are_exact}

pub returns : goal.returns
returns c = entrances_are_exact
