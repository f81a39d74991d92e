use Rattle.std.proofs.lemmas.Result.{err_from_is_err_and}
use Rattle.song_length.proofs.Telling.{searched_period, searched_stopped, stop_told}
use Rattle.song_length.proofs.measuring.search.Goals as goal

pub returns-in_err-filled-clause-fault : goal.returns-in_err-filled-clause-fault
returns-in_err-filled-clause-fault c =
    let p = err_from_is_err_and c.from_residual.result c.from_residual.ensures.1 in rw (p.1, p.2) tt

pub returns-in-Ok-clause-searched : goal.returns-in-Ok-clause-searched
returns-in-Ok-clause-searched c =
    let e = c.in-Ok.ensures in
    searched_period c.args.runner c.args.calls c.requires.running c.period.new.self c.in-Ok.found e.period e.limit
    e.address

pub returns-then-call-calls-clause-fault : goal.returns-then-call-calls-clause-fault
returns-then-call-calls-clause-fault c =
    stop_told c.args.runner c.args.calls c.requires.running c.period.new.self c.in-Err.reason c.in-Err.ensures.stops
    c.if-call-calls.true

pub returns-clause-searched : goal.returns-clause-searched
returns-clause-searched c =
    searched_stopped c.args.runner c.args.calls c.requires.running c.period.new.self c.in-Err.reason
    c.in-Err.ensures.stops c.if-call-calls.false
