use Rattle.std.proofs.Common.{◌≡◌, Ok, Err, sym, ap, ◌∙◌, arith, rules}
use Rattle.std.proofs.lemmas.Result.{err_from_is_err_and}
use Rattle.gts5.proofs.Loops.{row_goes_on, row_ends, row_faults}
use Rattle.gts5.proofs.patterns.rows_before_end.Goals as goal

pub returns-in_err-is_end : goal.returns-in_err-is_end
returns-in_err-is_end c =
    let p = err_from_is_err_and c.from_residual.result c.from_residual.ensures.1 in
    let same : p.0 ≡ c.in_err-is_end.field-0.0 = cc in
    rw p.1 (λ known.
    row_faults c.args.at c.loop-i.rows.items c.args.count c.loop-i.i c.loop-i.left.now c.front_row.result.0 p.0 _
    (omega arith) c.front_row.ensures.row
    (c.in_err-is_end.ensures (λ e. known (same ∙ e)) ∙ ap Err (sym same)) c.loop-i.invariant.reading)

pub returns-then-branch : goal.returns-then-branch
returns-then-branch c =
    row_ends c.args.at c.loop-i.rows.items c.args.count c.loop-i.i c.loop-i.left.now c.front_row.result.0 _
    (omega arith) c.front_row.ensures.row
    (c.in_ok-is_end.ensures ∙ ap Ok c.if-branch.true) c.loop-i.invariant.reading

pub loop-i-preserved : goal.loop-i-preserved
loop-i-preserved c = record {
  size = search rules;
  reading =
      rw c.in_ok-push.ensures.items
      (row_goes_on c.args.at c.loop-i.rows.items c.args.count c.loop-i.i c.loop-i.left.now c.front_row.result.0
      c.front_row.result.1.now _ (omega arith)
      c.front_row.ensures.row c.front_row.ensures.rest (c.in_ok-is_end.ensures ∙ ap Ok c.if-branch.false)
      c.loop-i.invariant.reading);
}
