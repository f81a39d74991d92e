-- Calls of entrances are isolated.
use Rattle.scope_calls.proofs.claims.entrances_are_isolated.Goals as goal
use Rattle.scope_calls.proofs.Isolation.{entrances_are_isolated}

pub returns : goal.returns
returns c = entrances_are_isolated
