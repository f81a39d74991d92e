use Rattle.pulse_code.proofs.claims.worked_pulses.Goals as goal
use Rattle.pulse_code.proofs.WorkedPulse.{pulses_are_worked, rows_are_worked}

-- src/claims.rt:16:1
pub returns-clause-runs : goal.returns-clause-runs
returns-clause-runs c = pulses_are_worked

pub returns-clause-rows : goal.returns-clause-rows
returns-clause-rows c = rows_are_worked
