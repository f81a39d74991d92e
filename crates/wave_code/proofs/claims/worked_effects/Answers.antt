use Rattle.wave_code.proofs.claims.worked_effects.Goals as goal
use Rattle.wave_code.proofs.WorkedEffect.{effects_are_worked, running_is_worked, commands_are_worked, lending_is_worked}

-- src/claims.rt:42:1
pub returns-clause-effects : goal.returns-clause-effects
returns-clause-effects c = effects_are_worked

pub returns-clause-running : goal.returns-clause-running
returns-clause-running c = running_is_worked

pub returns-clause-commands : goal.returns-clause-commands
returns-clause-commands c = commands_are_worked

pub returns-clause-lending : goal.returns-clause-lending
returns-clause-lending c = lending_is_worked
