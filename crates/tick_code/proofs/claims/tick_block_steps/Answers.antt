use Rattle.tick_code.proofs.claims.tick_block_steps.Goals as goal
use Rattle.tick_code.proofs.Stepping.{tick_block_steps}

-- src/claims.rt:8:1
pub returns : goal.returns
returns c = tick_block_steps
