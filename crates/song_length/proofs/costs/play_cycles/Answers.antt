use Rattle.std.proofs.Common.{◌≡◌, ◌-◌, subst, arith, ◌∙◌, ◌+◌}
use Rattle.std.proofs.lemmas.Result.{err_from_is_err_and}
use Rattle.sid_run.specs.State.{loaded, most_steps}
use Rattle.cpu6502.specs.Call.{FailsBy}
use Rattle.song_length.specs.Plays.{Lead}
use Rattle.song_length.specs.Told.{CostSo, play_stops}
use Rattle.song_length.proofs.Answering.{fault_more}
use Rattle.song_length.proofs.Costing.{play_cycles_few, none_costed, one_costed}
use Rattle.song_length.proofs.costs.play_cycles.Goals as goal

pub returns-in_err-runner-clause-fault : goal.returns-in_err-runner-clause-fault
returns-in_err-runner-clause-fault c =
    let p = err_from_is_err_and c.from_residual.result c.from_residual.ensures.1 in
    rw (p.1, p.2) (fault_more c.args.psid.now c.args.song c.args.calls c.in_err-runner.field-0.0
    c.in_err-runner.ensures.fault)

pub loop-before-init : goal.loop-before-init
loop-before-init c =
    rw c.new-cycles.ensures (none_costed c.args.psid.now c.args.song c.in_ok-runner.runner c.in_ok-runner.ensures.started)

pub overflow_cast-cycles : goal.overflow_cast-cycles
overflow_cast-cycles c =
    let e = c.in-Ok.ensures in
    let few = play_cycles_few c.loop-before.runner.machine c.loop-before.runner.play c.play.new.self.spent e.in_budget in
    let same = c.cycles.ensures in
    let are = e.cycles in
    omega (arith, few, same, are)

pub returns-in-Err-clause-fault : goal.returns-in-Err-clause-fault
returns-in-Err-clause-fault c =
    let i = c.loop-before.invariant in
    let e = c.in-Err.ensures in
    let within = c.loop-before-test.true in
    let fails = subst (λ p. FailsBy c.loop-before.runner.machine p c.loop-before.runner.machine.cpu.a most_steps
    c.in-Err.reason c.play.new.self.machine) i.address (e.failed i.running) in
    let back : c.loop-before.before ≡ c.loop-before.before + 1 - 1 = omega arith in
    play_stops i.cost.init i.cost.first c.loop-before.runner.machine c.play.new.self.machine (omega arith)
    (omega (arith, within)) i.cost.begins
    (subst (λ n. Lead (loaded c.args.psid.now).play n i.cost.first c.loop-before.runner.machine) back i.led) fails

pub loop-before-preserved : goal.loop-before-preserved
loop-before-preserved c =
    let i = c.loop-before.invariant in
    let e = c.in-Ok.ensures in
    rw c.in_ok-push-in-Ok.ensures.ok
    (one_costed c.args.psid.now c.args.song c.loop-before.before c.loop-before.cycles c.loop-before.runner i
    c.play.new.self c.play.new.self.spent c.cycles.result (record { called = e.returned; within = e.in_budget })
    (c.cycles.ensures ∙ e.cycles) e.same_play e.is_running)

pub returns-clause-cost : goal.returns-clause-cost
returns-clause-cost c =
    let is : c.loop-before.before ≡ c.args.calls = omega arith in
    subst (λ n. CostSo c.args.psid.now c.args.song n c.loop-before.cycles) is c.loop-before.invariant.cost
