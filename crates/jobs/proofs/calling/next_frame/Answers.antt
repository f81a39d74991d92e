use Rattle.std.proofs.Common.{◌≡◌, ◌≢◌, suc, ◌-◌, refl, rules, arith}
use Rattle.playroutine.proofs.Laws.{frame_after}
use Rattle.jobs.proofs.calling.next_frame.Goals as goal

pub returns-then-call-eq0 : goal.returns-then-call-eq0
returns-then-call-eq0 c = λ song k options stands.
    let zero : c.args.call ≡ 0 = c.if-call-eq0.true in
    rw zero (refl, rw zero at stands)

pub returns-else-call-eq0 : goal.returns-else-call-eq0
returns-else-call-eq0 c = λ song k options stands.
    let later : c.args.call ≢ 0 = search rules in
    let next = frame_after _ _ _ song k options (c.args.call - 1) stands c.frame.ensures.plays in
    let z : c.args.call ≡ suc (c.args.call - 1) = omega (arith, later) in
    rw z (next.call, next.after)
