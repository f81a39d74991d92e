use Rattle.player_bound.proofs.Checks.{least_bounds_are_least}
use Rattle.player_bound.proofs.claims.least_bounds_are_least.Goals as goal

pub returns : goal.returns
returns c = least_bounds_are_least
