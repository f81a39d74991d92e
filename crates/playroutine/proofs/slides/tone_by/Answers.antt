use Rattle.std.proofs.Common.{sym, ◌∙◌}
use Rattle.playroutine.proofs.slides.tone_by.Goals as goal

pub returns-then-is_end-clause-rule : goal.returns-then-is_end-clause-rule
returns-then-is_end-clause-rule c = λ plays.
    rw (sym c.is_end.ensures ∙ c.if-is_end.true) (c.at_target.ensures.rule plays)

pub returns-else-is_end-clause-rule : goal.returns-else-is_end-clause-rule
returns-else-is_end-clause-rule c = λ plays.
    rw (sym c.is_end.ensures ∙ c.if-is_end.false) (c.towards.ensures.rule plays)
