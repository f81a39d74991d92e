use Rattle.std.proofs.Common.{refl}
use Rattle.playroutine.proofs.voices.pulse_done.Goals as goal

pub returns-then-not-pulse_left_out-clause-rule : goal.returns-then-not-pulse_left_out-clause-rule
returns-then-not-pulse_left_out-clause-rule c plays common =
    rw (← c.if-not-pulse_left_out.ensures.rule plays) (rw (c.pulse_step.ensures.rule plays) refl)

pub returns-else-not-pulse_left_out-clause-rule : goal.returns-else-not-pulse_left_out-clause-rule
returns-else-not-pulse_left_out-clause-rule c plays common =
    rw (← c.if-not-pulse_left_out.ensures.rule plays) refl
