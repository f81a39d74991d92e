use Rattle.code_runs.proofs.Cycles.{steps_take_cycles, cycles_add}
use Rattle.code_runs.proofs.claims.runs_take_cycles.Goals as goal

pub returns-clause-steps : goal.returns-clause-steps
returns-clause-steps c = steps_take_cycles

pub returns-clause-add : goal.returns-clause-add
returns-clause-add c = cycles_add
