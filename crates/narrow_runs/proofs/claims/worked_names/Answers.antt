-- Names and runs that are worked by hand.
use Rattle.narrow_runs.proofs.WorkedNames.{names_are_worked, runs_are_worked}
use Rattle.narrow_runs.proofs.claims.worked_names.Goals as goal

pub returns-clause-names : goal.returns-clause-names
returns-clause-names c = names_are_worked

pub returns-clause-runs : goal.returns-clause-runs
returns-clause-runs c = runs_are_worked
