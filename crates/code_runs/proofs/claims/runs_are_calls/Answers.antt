use Rattle.code_runs.specs.Calls.{In}
use Rattle.code_runs.proofs.Moves.{leads_stay}
use Rattle.code_runs.proofs.Bridge.{machines_follow, call_returns}
use Rattle.code_runs.proofs.Entry.{calls_begin_so}
use Rattle.code_runs.proofs.claims.runs_are_calls.Goals as goal

pub returns-clause-machines : goal.returns-clause-machines
returns-clause-machines c places = machines_follow (In places)

pub returns-clause-inside : goal.returns-clause-inside
returns-clause-inside c places n state after leads q out = leads_stay leads q out

pub returns-clause-calls : goal.returns-clause-calls
returns-clause-calls c places = call_returns (In places)

pub returns-clause-entry : goal.returns-clause-entry
returns-clause-entry c = calls_begin_so
