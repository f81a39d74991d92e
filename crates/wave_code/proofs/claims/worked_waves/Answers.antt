use Rattle.wave_code.proofs.claims.worked_waves.Goals as goal
use Rattle.wave_code.proofs.WorkedWave.{waves_are_worked, rows_are_worked}

-- src/claims.rt:20:1
pub returns-clause-runs : goal.returns-clause-runs
returns-clause-runs c = waves_are_worked

pub returns-clause-rows : goal.returns-clause-rows
returns-clause-rows c = rows_are_worked
