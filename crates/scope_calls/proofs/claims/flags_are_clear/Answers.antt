-- The law, as it is proved.
use Rattle.scope_calls.proofs.Clear.{flags_are_clear}
use Rattle.scope_calls.proofs.claims.flags_are_clear.Goals as goal

pub returns : goal.returns
returns c = flags_are_clear
