use Rattle.faithful.proofs.FreeCalls.{calls_store_at_home}
use Rattle.faithful.proofs.claims.calls_store_at_home.Goals as goal

pub returns : goal.returns
returns c = calls_store_at_home
