use Rattle.std.proofs.lemmas.Result.{err_from_is_err_and}
use Rattle.jobs.proofs.Laws.{lines_then, lines_failed}
use Rattle.cost_jobs.proofs.cost_lines.show_costs.Goals as goal

pub returns-in_err-show_kinds : goal.returns-in_err-show_kinds
returns-in_err-show_kinds g c =
    let p = err_from_is_err_and c.from_residual.result c.from_residual.ensures.1 in
    rw (p.1, p.2) (lines_failed _ _ _ c.in_err-show_kinds.ensures)

pub returns : goal.returns
returns g c = lines_then _ _ _ c.in_ok-show_kinds.ensures c.show_parts.ensures
