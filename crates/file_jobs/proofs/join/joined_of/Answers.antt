use Rattle.std.proofs.Common.{rules, ◌≢◌}
use Rattle.song_join.specs.declared.faults.JoinFault.TheVariants.{NoMemory}
use Rattle.file_jobs.proofs.Joining.{join_fails}
use Rattle.file_jobs.proofs.join.joined_of.Goals as goal

pub returns-in-Err-clause-refused : goal.returns-in-Err-clause-refused
returns-in-Err-clause-refused c =
    let differs : c.in-Err.fault ≢ NoMemory = search rules in
    join_fails c.in-Err.fault differs c.in-Err.ensures.no_other c.join_refusal.ensures
