use Rattle.tick_code.proofs.claims.worked_tick.Goals as goal
use Rattle.tick_code.proofs.WorkedTicks.{tick_is_worked}

-- src/claims.rt:20:1
pub returns : goal.returns
returns c = tick_is_worked
