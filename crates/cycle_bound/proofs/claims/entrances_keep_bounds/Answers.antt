use Rattle.cycle_bound.proofs.EntranceBounds.{entrances_keep_bounds, calls_keep_bounds}
use Rattle.cycle_bound.proofs.claims.entrances_keep_bounds.Goals as goal

pub returns-clause-entrances : goal.returns-clause-entrances
returns-clause-entrances c = entrances_keep_bounds

pub returns-clause-calls : goal.returns-clause-calls
returns-clause-calls c = calls_keep_bounds
