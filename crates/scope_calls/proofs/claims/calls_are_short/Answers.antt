-- Calls of entrances are short.
use Rattle.scope_calls.proofs.claims.calls_are_short.Goals as goal
use Rattle.scope_calls.proofs.Weighing.{calls_are_short}

pub returns : goal.returns
returns c = calls_are_short
