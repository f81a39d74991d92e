use Rattle.scope_lines.proofs.Whole.{lowered_blocks_take}
use Rattle.scope_lines.proofs.SameCycles.{cycles_are_isolated}
use Rattle.scope_lines.proofs.claims.lowered_blocks_take_cycles.Goals as goal

pub returns-clause-blocks : goal.returns-clause-blocks
returns-clause-blocks c = lowered_blocks_take

pub returns-clause-isolated : goal.returns-clause-isolated
returns-clause-isolated c = cycles_are_isolated
