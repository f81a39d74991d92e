use Rattle.std.proofs.lemmas.Result.{err_from_is_err_and}
use Rattle.song_length.proofs.Answering.{fault_more, play_fault, never_told, repeat_told}
use Rattle.song_length.proofs.measuring.measure.Goals as goal

pub returns-in_err-runner-clause-fault : goal.returns-in_err-runner-clause-fault
returns-in_err-runner-clause-fault c =
    let p = err_from_is_err_and c.from_residual.result c.from_residual.ensures.1 in
    rw (p.1, p.2) (fault_more c.args.psid.now c.args.song c.args.calls c.in_err-runner.field-0.0
    c.in_err-runner.ensures.fault)

pub returns-in_err-counts-clause-fault : goal.returns-in_err-counts-clause-fault
returns-in_err-counts-clause-fault c =
    let p = err_from_is_err_and c.from_residual-in_err-counts.result c.from_residual-in_err-counts.ensures.1 in
    rw (p.1, p.2) (play_fault c.args.psid.now c.args.song c.args.calls c.in_ok-runner.runner
    c.in_ok-runner.ensures.started c.in_err-counts.field-0.0 c.in_err-counts.ensures.fault)

pub returns-in_err-repeat-clause-fault : goal.returns-in_err-repeat-clause-fault
returns-in_err-repeat-clause-fault c =
    let p = err_from_is_err_and c.from_residual-in_err-repeat.result c.from_residual-in_err-repeat.ensures.1 in
    rw (p.1, p.2) (fault_more c.args.psid.now c.args.song c.args.calls c.in_err-repeat.field-0.0
    c.in_err-repeat.ensures.fault)

pub returns-in_ok-repeat-clause-measured : goal.returns-in_ok-repeat-clause-measured
returns-in_ok-repeat-clause-measured c =
    repeat_told c.args.psid.now c.args.song c.args.calls c.in_ok-runner.runner c.in_ok-runner.ensures.started
    c.in_ok-counts.counts c.in_ok-counts.found c.in_ok-counts.ensures.searched c.in-Some-found.length c.in-Some-found.is
    c.in_ok-repeat.repeat c.in_ok-repeat.ensures.found c.cycles-init.result c.in-Some.dearest c.in-Some.is
    c.cycles-init.ensures

pub returns-in_default-found-clause-measured : goal.returns-in_default-found-clause-measured
returns-in_default-found-clause-measured c =
    never_told c.args.psid.now c.args.song c.args.calls c.in_ok-runner.runner c.in_ok-runner.ensures.started
    c.in_ok-counts.counts c.in_ok-counts.found c.in_ok-counts.ensures.searched c.cycles-init.result c.in-Some.dearest
    c.in_default-found.is c.in-Some.is c.cycles-init.ensures
