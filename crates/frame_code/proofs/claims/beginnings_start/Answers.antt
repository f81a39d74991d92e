-- The beginning of a subtune.
use Rattle.frame_code.proofs.claims.beginnings_start.Goals as goal
use Rattle.frame_code.proofs.Beginning.{beginnings_start}

pub returns : goal.returns
returns c = beginnings_start
