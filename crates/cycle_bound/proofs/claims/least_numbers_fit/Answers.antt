use Rattle.cycle_bound.proofs.Spans.{least_fit}
use Rattle.cycle_bound.proofs.claims.least_numbers_fit.Goals as goal

pub returns : goal.returns
returns c = least_fit
