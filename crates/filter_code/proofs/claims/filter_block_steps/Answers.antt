use Rattle.filter_code.proofs.claims.filter_block_steps.Goals as goal
use Rattle.filter_code.proofs.Stepping.{filter_block_steps}

-- src/claims.rt:9:1
pub returns : goal.returns
returns c = filter_block_steps
