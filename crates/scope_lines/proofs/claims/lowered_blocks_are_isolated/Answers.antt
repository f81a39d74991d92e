-- Trees, and lowered blocks, rest on what is known alone.
use Rattle.scope_lines.proofs.Isolating.{trees_are_isolated, lowered_blocks_are_isolated}
use Rattle.scope_lines.proofs.claims.lowered_blocks_are_isolated.Goals as goal

pub returns-clause-trees : goal.returns-clause-trees
returns-clause-trees c = trees_are_isolated

pub returns-clause-blocks : goal.returns-clause-blocks
returns-clause-blocks c = lowered_blocks_are_isolated
