use Rattle.slide_code.proofs.claims.slide_block_steps.Goals as goal
use Rattle.slide_code.proofs.Stepping.{slide_block_steps}

-- src/claims.rt:12:1
pub returns : goal.returns
returns c = slide_block_steps
