use Rattle.std.proofs.Common.{Err, ap}
use Rattle.std.proofs.lemmas.Result.{err_from_is_err_and}
use Rattle.jobs.proofs.Laws.{printed_on, printing_cut}
use Rattle.cost_jobs.proofs.cost_lines.show_kinds.Goals as goal

pub returns-in_err-put_message : goal.returns-in_err-put_message
returns-in_err-put_message g c =
    let p = err_from_is_err_and c.from_residual.result c.from_residual.ensures.1 in
    let e = c.in_err-put_message.ensures in
    rw p.1 (printing_cut _ c.loop-kind.invariant _ c.loop-kind-test.true _ p.0 p.2
    (λ is. rw (c.kind_message-message.ensures, c.name.ensures.name, c.bytes.ensures) at e.failed (ap Err is))
    (λ is. e.no_memory (ap Err is)))

pub loop-kind-preserved : goal.loop-kind-preserved
loop-kind-preserved g c =
    printed_on _ c.loop-kind.invariant _ c.loop-kind-test.true
    (rw (c.kind_message-message.ensures, c.name.ensures.name, c.bytes.ensures) at c.in_ok-put_message.ensures.ok)
