-- Layouts with spare bytes.
use Rattle.player_calls.proofs.claims.worked_layouts.Goals as goal
use Rattle.player_calls.proofs.WorkedWide.{spares_are_worked, layouts_are_worked}

pub returns-clause-spares : goal.returns-clause-spares
returns-clause-spares c = spares_are_worked

pub returns-clause-layouts : goal.returns-clause-layouts
returns-clause-layouts c = layouts_are_worked
