use Rattle.wave_code.proofs.claims.wave_block_steps.Goals as goal
use Rattle.wave_code.proofs.Stepping.{wave_block_steps}

-- src/claims.rt:8:1
pub returns : goal.returns
returns c = wave_block_steps
