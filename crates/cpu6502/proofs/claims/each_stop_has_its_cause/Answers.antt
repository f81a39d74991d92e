use Rattle.cpu6502.proofs.Causes.{stops_have_causes}
use Rattle.cpu6502.proofs.claims.each_stop_has_its_cause.Goals as goal

pub returns : goal.returns
returns c = stops_have_causes
