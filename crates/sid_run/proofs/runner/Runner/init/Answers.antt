use Rattle.std.proofs.Common.{◌≡◌, ℕ, ap, subst}
use Rattle.sid_run.specs.State.{RunnerState}
use Rattle.sid_run.specs.declared.runner.TheConstants.{MOST_STEPS}
use Rattle.sid_run.specs.Calls.{AnswersCall}
use Rattle.sid_run.proofs.runner.Runner.init.Goals as goal

pub returns : goal.returns
returns c =
    let address : c.call_at.inside.init ≡ c.args.self.now.init = ap (λ (s : RunnerState). s.init) c.call_at.view_is in
    subst (λ (n : ℕ). AnswersCall n c.args.subtune MOST_STEPS c.args.self.now c.call_at-2.new.self c.call_at-2.result)
    address c.call_at-2.ensures
