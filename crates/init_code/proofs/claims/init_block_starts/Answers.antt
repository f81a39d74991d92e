use Rattle.init_code.proofs.claims.init_block_starts.Goals as goal
use Rattle.init_code.proofs.Starting.{init_block_starts}

-- src/claims.rt:7:1
pub returns : goal.returns
returns c = init_block_starts
