-- Lowered blocks do what they mean.
use Rattle.scope_lines.proofs.Whole.{lowered_blocks_do}
use Rattle.scope_lines.proofs.claims.lowered_blocks_do.Goals as goal

pub returns : goal.returns
returns c = lowered_blocks_do
