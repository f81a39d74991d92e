use Rattle.pulse_code.proofs.claims.pulse_block_steps.Goals as goal
use Rattle.pulse_code.proofs.Stepping.{pulse_block_steps}

-- src/claims.rt:7:1
pub returns : goal.returns
returns c = pulse_block_steps
