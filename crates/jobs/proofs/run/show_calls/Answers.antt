use Rattle.std.proofs.Common.{Err, rules, ap, add-one, arith}
use Rattle.std.proofs.lemmas.Result.{err_from_is_err_and}
use Rattle.jobs.proofs.Calls.{so_far_on, stop_met, line_over, all_played, none_yet}
use Rattle.jobs.proofs.run.show_calls.Goals as goal
use Rattle.jobs.proofs.run.show_calls.Goals.{else-loop-call-test}
use Rattle.jobs.proofs.run.show_calls.Goals.{then-loop-call-test+in-Ok+in_ok-put_registers+else-call-frames}

pub loop-call-init : goal.loop-call-init
loop-call-init g c = none_yet c.args.runner.now c.args.number _ c.requires.running

pub returns-in-Err : goal.returns-in-Err
returns-in-Err g c =
    let fails = c.in-Err.ensures.failed in
    stop_met c.loop-call.invariant c.args.frames c.next_call.new.runner.machine c.in-Err.reason (search rules) fails
    c.stop_refusal.ensures

pub returns-in_err-put_registers : goal.returns-in_err-put_registers
returns-in_err-put_registers g c =
    let p = err_from_is_err_and c.from_residual.result c.from_residual.ensures.1 in
    let e = c.in_err-put_registers.ensures in
    let returns = c.in-Ok.ensures.returned in
    let machine = c.next_call.new.runner.machine in
    rw p.1 (line_over c.loop-call.invariant c.args.frames (search rules) machine c.in-Ok.registers returns _ p.0 p.2
    (λ is. e.failed (ap Err is)) (λ is. e.no_memory (ap Err is)))

pub loop-call-preserved : goal.loop-call-preserved
loop-call-preserved g c =
    let e = c.in-Ok.ensures in
    let told = c.in_ok-put_registers.ensures.ok in
    rw (add-one c.loop-call.call) (so_far_on c.loop-call.invariant c.next_call.new.runner c.in-Ok.registers e.returned
    e.running e.same_init e.same_play told)

pub returns : goal.returns
returns g c = elim c.loop-call-test.branch [
  | else-loop-call-test w ↦ let out = w.loop-call-test.false in absurd (omega (arith, out, c.loop-call.auto.call-end))
  | then-loop-call-test+in-Ok+in_ok-put_registers+else-call-frames w ↦
      let e = w.in-Ok.ensures in
      let told = w.in_ok-put_registers.ensures.ok in
      let so_far =
      so_far_on c.loop-call.invariant w.next_call.new.runner w.in-Ok.registers e.returned e.running e.same_init
      e.same_play told in
      rw w.out-is (all_played so_far c.args.frames (omega arith))
]
