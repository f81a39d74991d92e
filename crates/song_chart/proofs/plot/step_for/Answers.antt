-- The first step that holds the clock cycles, or the last.
use Rattle.std.proofs.Common.{arith}
use Rattle.song_chart.proofs.Steps.{first_step, no_step}
use Rattle.song_chart.proofs.plot.step_for.Goals as goal

pub returns-then-most-step : goal.returns-then-most-step
returns-then-most-step c =
    first_step c.args.most c.loop-step.step-index c.loop-step-test.true c.loop-step.invariant c.if-most-step.true

pub returns : goal.returns
returns c = no_step c.args.most (λ k small. c.loop-step.invariant k (omega (arith, small)))
