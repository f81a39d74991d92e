-- The listing assembles.
use Rattle.player_code.proofs.claims.code_assembles.Goals as goal
use Rattle.player_code.proofs.Whole.{code_assembles}

pub returns : goal.returns
returns c = code_assembles
