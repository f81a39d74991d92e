use Rattle.std.proofs.Common.{Err, ap}
use Rattle.std.proofs.lemmas.Result.{err_from_is_err_and}
use Rattle.jobs.proofs.PrintedLines.{printed_on, printing_cut}
use Rattle.jobs.proofs.printing.print_lines.Goals as goal

pub returns-in_err-put_text : goal.returns-in_err-put_text
returns-in_err-put_text g c =
    let p = err_from_is_err_and c.from_residual.result c.from_residual.ensures.1 in
    let e = c.in_err-put_text.ensures in
    rw p.1 (printing_cut _ c.loop-line.invariant _ c.loop-line-test.true _ p.0 p.2
    (λ is. rw c.as_bytes.ensures.value at e.failed (ap Err is)) (λ is. e.no_memory (ap Err is)))

pub loop-line-preserved : goal.loop-line-preserved
loop-line-preserved g c =
    printed_on _ c.loop-line.invariant _ c.loop-line-test.true (rw c.as_bytes.ensures.value at c.in_ok-put_text.ensures.ok)
