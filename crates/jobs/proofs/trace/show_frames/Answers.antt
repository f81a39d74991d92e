use Rattle.std.proofs.Common.{◌≤◌, ◌+◌, Err, rules, ap, add-one, arith}
use Rattle.std.proofs.lemmas.Result.{err_from_is_err_and}
use Rattle.jobs.proofs.Traced.{none_traced, traced_on, trace_cut, all_traced}
use Rattle.jobs.proofs.trace.show_frames.Goals as goal
use Rattle.jobs.proofs.trace.show_frames.Goals.{else-loop-call-test}
use Rattle.jobs.proofs.trace.show_frames.Goals.{then-loop-call-test+in_ok-put_registers+else-call-frames}

pub loop-call-init : goal.loop-call-init
loop-call-init g c = λ song k o stands. none_traced _ stands

pub returns-in_err-put_registers : goal.returns-in_err-put_registers
returns-in_err-put_registers g c = λ song k o stands.
    let p = err_from_is_err_and c.from_residual.result c.from_residual.ensures.1 in
    let e = c.in_err-put_registers.ensures in
    let so_far = c.loop-call.invariant song k o stands in
    let next = c.next_frame-registers.ensures song k o so_far.stands in
    let within : c.loop-call.call ≤ c.args.frames = search rules in
    rw p.1 (trace_cut so_far (c.args.frames + 1) (omega (arith, within)) _ next.0 _ p.0 p.2 (λ is. e.failed (ap Err is))
    (λ is. e.no_memory (ap Err is)))

pub loop-call-preserved : goal.loop-call-preserved
loop-call-preserved g c = λ song k o stands.
    let so_far = c.loop-call.invariant song k o stands in
    let next = c.next_frame-registers.ensures song k o so_far.stands in
    rw (add-one c.loop-call.call) (traced_on so_far _ _ next.0 next.1 c.in_ok-put_registers.ensures.ok)

pub returns : goal.returns
returns g c = λ song k o stands. elim c.loop-call-test.branch [
  | else-loop-call-test w ↦ let out = w.loop-call-test.false in absurd (omega (arith, out, c.loop-call.auto.call-end))
  | then-loop-call-test+in_ok-put_registers+else-call-frames w ↦
      let so_far = c.loop-call.invariant song k o stands in
      let next = w.next_frame-registers.ensures song k o so_far.stands in
      let traced = traced_on so_far _ _ next.0 next.1 w.in_ok-put_registers.ensures.ok in
      rw w.out-is (all_traced traced (c.args.frames + 1) (omega arith))
]
