use Rattle.variable_places.proofs.Covered.{named_have_bytes}
use Rattle.variable_places.proofs.claims.named_have_bytes.Goals as goal

pub returns : goal.returns
returns c = named_have_bytes
