use Rattle.filter_code.proofs.claims.worked_filters.Goals as goal
use Rattle.filter_code.proofs.WorkedFilters.{filters_are_worked, rows_are_worked, runs_are_refused}

-- src/claims.rt:17:1
pub returns-clause-frames : goal.returns-clause-frames
returns-clause-frames c = filters_are_worked

-- src/claims.rt:17:1
pub returns-clause-rows : goal.returns-clause-rows
returns-clause-rows c = rows_are_worked

-- src/claims.rt:17:1
pub returns-clause-refused : goal.returns-clause-refused
returns-clause-refused c = runs_are_refused
