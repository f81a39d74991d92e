-- The conditions of variables.
use Rattle.idle_parts.proofs.NeededRows.{rows_are_needed}
use Rattle.idle_parts.proofs.claims.conditions_are_needed.Goals as goal

pub returns : goal.returns
returns c = rows_are_needed
