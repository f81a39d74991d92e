use Rattle.cycle_bound.proofs.Leasts.{least_are_least}
use Rattle.cycle_bound.proofs.claims.least_are_least.Goals as goal

pub returns : goal.returns
returns c = least_are_least
