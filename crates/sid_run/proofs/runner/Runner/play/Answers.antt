use Rattle.std.proofs.Common.{◌≡◌, ℕ, ap, subst}
use Rattle.sid_run.specs.State.{RunnerState}
use Rattle.sid_run.specs.declared.runner.TheConstants.{MOST_STEPS}
use Rattle.sid_run.specs.Calls.{AnswersCall}
use Rattle.sid_run.proofs.runner.Runner.play.Goals as goal

pub returns : goal.returns
returns c =
    let address : c.call_at.inside.play ≡ c.args.self.now.play = ap (λ (s : RunnerState). s.play) c.call_at.view_is in
    let a : c.call_at.inside.machine.cpu.a ≡ c.args.self.now.machine.cpu.a =
    ap (λ (s : RunnerState). s.machine.cpu.a) c.call_at.view_is in
    subst (λ (n : ℕ). AnswersCall c.args.self.now.play n MOST_STEPS c.args.self.now c.call_at-2.new.self
    c.call_at-2.result) a
    (subst (λ (n : ℕ). AnswersCall n c.call_at.inside.machine.cpu.a MOST_STEPS c.args.self.now c.call_at-2.new.self
    c.call_at-2.result) address c.call_at-2.ensures)
