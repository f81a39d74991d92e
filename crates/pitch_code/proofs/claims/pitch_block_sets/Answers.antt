use Rattle.pitch_code.proofs.claims.pitch_block_sets.Goals as goal
use Rattle.pitch_code.proofs.Setting.{pitch_block_sets}

-- src/claims.rt:8:1
pub returns : goal.returns
returns c = pitch_block_sets
