use Rattle.cpu6502.proofs.Machines.{step_keeps, call_keeps}
use Rattle.cpu6502.proofs.claims.machines_stay_machines.Goals as goal

pub returns-clause-steps : goal.returns-clause-steps
returns-clause-steps c = step_keeps

pub returns-clause-calls : goal.returns-clause-calls
returns-clause-calls c = call_keeps
