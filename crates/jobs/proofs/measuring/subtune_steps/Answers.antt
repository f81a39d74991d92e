use Rattle.std.proofs.Common.{sym, subst}
use Rattle.sid_run.specs.State.{RunnerState}
use Rattle.jobs.specs.Selftest.{selftest_calls, CallsTake}
use Rattle.jobs.specs.Endings.{FirstCallsReturn}
use Rattle.jobs.proofs.measuring.subtune_steps.Goals as goal

pub count_steps-requires-clause-returns : goal.count_steps-requires-clause-returns
count_steps-requires-clause-returns c =
    subst (λ (file : RunnerState). FirstCallsReturn file c.args.subtune selftest_calls) (sym c.in_ok-runner.ensures)
    c.requires.returns

pub returns-clause-take : goal.returns-clause-take
returns-clause-take c =
    subst (λ (file : RunnerState). CallsTake file c.args.subtune selftest_calls c.count_steps.result) c.in_ok-runner.ensures
    c.count_steps.ensures.take
