use Rattle.wave_code.proofs.claims.effect_block_begins.Goals as goal
use Rattle.wave_code.proofs.Beginning.{effect_block_begins}

-- src/claims.rt:27:1
pub returns : goal.returns
returns c = effect_block_begins
