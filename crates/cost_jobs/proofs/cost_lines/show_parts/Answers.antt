use Rattle.std.proofs.Common.{Err, ap}
use Rattle.std.proofs.lemmas.Result.{err_from_is_err_and}
use Rattle.jobs.proofs.Laws.{printed_on, printing_cut}
use Rattle.cost_jobs.proofs.cost_lines.show_parts.Goals as goal

pub returns-in_err-put_message : goal.returns-in_err-put_message
returns-in_err-put_message g c =
    let p = err_from_is_err_and c.from_residual.result c.from_residual.ensures.1 in
    let e = c.in_err-put_message.ensures in
    rw p.1 (printing_cut _ c.loop-cost.invariant _ c.loop-cost-test.true _ p.0 p.2
    (λ is. rw c.part_message.ensures at e.failed (ap Err is)) (λ is. e.no_memory (ap Err is)))

pub loop-cost-preserved : goal.loop-cost-preserved
loop-cost-preserved g c =
    printed_on _ c.loop-cost.invariant _ c.loop-cost-test.true (rw c.part_message.ensures at c.in_ok-put_message.ensures.ok)
