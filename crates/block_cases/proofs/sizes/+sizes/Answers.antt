-- The lines behind an end.
use Rattle.std.proofs.Common.{sym, ◌∙◌}
use Rattle.scope_lines.proofs.Laws.{ends_behind}
use Rattle.block_cases.proofs.Reading.{end_cases}
use Rattle.block_cases.proofs.sizes.+sizes.Goals as goal

pub most_of-returns-then-is_end-clause-behind : goal.most_of-returns-then-is_end-clause-behind
most_of-returns-then-is_end-clause-behind t c =
    ends_behind _ _ _ _ c.in-Some.ensures.cases.0 (end_cases _ (sym c.is_end.ensures ∙ c.if-is_end.true))
    c.loop-line.invariant.is_open c.loop-line.invariant.behind
