use Rattle.cycle_bound.proofs.Bounds.{trees_keep_bounds, blocks_keep_bounds, lowered_blocks_keep_bounds}
use Rattle.cycle_bound.proofs.claims.bounds_are_kept.Goals as goal

pub returns-clause-trees : goal.returns-clause-trees
returns-clause-trees c = trees_keep_bounds

pub returns-clause-blocks : goal.returns-clause-blocks
returns-clause-blocks c = blocks_keep_bounds

pub returns-clause-lowered : goal.returns-clause-lowered
returns-clause-lowered c = lowered_blocks_keep_bounds
