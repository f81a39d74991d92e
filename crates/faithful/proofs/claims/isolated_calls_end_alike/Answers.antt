use Rattle.faithful.proofs.FreeCalls.{inits_end_alike, plays_end_alike}
use Rattle.faithful.proofs.claims.isolated_calls_end_alike.Goals as goal

pub returns-clause-inits : goal.returns-clause-inits
returns-clause-inits c = inits_end_alike

pub returns-clause-plays : goal.returns-clause-plays
returns-clause-plays c = plays_end_alike
