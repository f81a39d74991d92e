use Rattle.player_memory.proofs.WorkedConditions.{fact_lines_are_worked, runs_are_worked}
use Rattle.player_memory.proofs.claims.worked_fact_lines.Goals as goal

pub returns-clause-facts : goal.returns-clause-facts
returns-clause-facts c = fact_lines_are_worked

pub returns-clause-runs : goal.returns-clause-runs
returns-clause-runs c = runs_are_worked
