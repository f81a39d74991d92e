-- The lines behind an end.
use Rattle.scope_lines.proofs.Laws.{ends_behind}
use Rattle.cycle_bound.proofs.lines.+count.Goals as goal

pub count-returns-in-End-clause-behind : goal.count-returns-in-End-clause-behind
count-returns-in-End-clause-behind t c =
    ends_behind _ _ _ _ c.in-Some.ensures.cases.0 c.in-End.is c.loop-line.invariant.is_open
    c.loop-line.invariant.behind
