use Rattle.init_code.proofs.claims.worked_subtunes.Goals as goal
use Rattle.init_code.proofs.WorkedInit.{runs_are_worked, site_is_worked, starts_are_worked}

-- src/claims.rt:15:1
pub returns-clause-runs : goal.returns-clause-runs
returns-clause-runs c = runs_are_worked

pub returns-clause-site : goal.returns-clause-site
returns-clause-site c = site_is_worked

pub returns-clause-starts : goal.returns-clause-starts
returns-clause-starts c = starts_are_worked
