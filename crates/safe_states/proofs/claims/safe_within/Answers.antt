use Rattle.safe_states.proofs.Steps.{safe_within_lem}
use Rattle.safe_states.proofs.claims.safe_within.Goals as goal

pub returns : goal.returns
returns c = safe_within_lem
