use Rattle.register_code.proofs.claims.register_block_writes.Goals as goal
use Rattle.register_code.proofs.Sounding.{register_block_writes}

-- src/claims.rt:7:1
pub returns : goal.returns
returns c = register_block_writes
