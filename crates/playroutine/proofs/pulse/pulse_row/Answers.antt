use Rattle.std.proofs.Common.{arith}
use Rattle.std.proofs.lemmas.Bool.Decides.{nat_tests}
use Rattle.playroutine.proofs.pulse.pulse_row.Goals as goal

pub returns-then-row-ge128-clause-rule : goal.returns-then-row-ge128-clause-rule
returns-then-row-ge128-clause-rule c = λ plays. let rule = c.pulse_set.ensures.rule plays in grind (arith, nat_tests)

pub returns-else-time-eq0-2-clause-rule : goal.returns-else-time-eq0-2-clause-rule
returns-else-time-eq0-2-clause-rule c = λ plays. let rule = c.pulse_slide.ensures.rule plays in grind (arith, nat_tests)
