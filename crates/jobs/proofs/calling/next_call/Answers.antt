use Rattle.std.proofs.Common.{◌≡◌, ◌≢◌, rules}
use Rattle.jobs.proofs.Calls.{returns_with, takes_with, later_entry, later_number}
use Rattle.jobs.proofs.calling.next_call.Goals as goal

pub returns-then-call-eq0-clause-returned : goal.returns-then-call-eq0-clause-returned
returns-then-call-eq0-clause-returned c =
    let zero : c.args.call ≡ 0 = c.if-call-eq0.true in
    let e = c.init.ensures in
    rw zero (returns_with _ _ _ _ _ _ e.returned e.in_budget e.registers)

pub returns-then-call-eq0-clause-takes : goal.returns-then-call-eq0-clause-takes
returns-then-call-eq0-clause-takes c =
    let zero : c.args.call ≡ 0 = c.if-call-eq0.true in
    let e = c.init.ensures in
    rw zero (takes_with _ _ _ _ _ _ e.returned e.in_budget)

pub returns-then-call-eq0-clause-failed : goal.returns-then-call-eq0-clause-failed
returns-then-call-eq0-clause-failed c =
    let zero : c.args.call ≡ 0 = c.if-call-eq0.true in
    rw zero (c.init.ensures.failed c.requires)

pub returns-else-call-eq0-clause-returned : goal.returns-else-call-eq0-clause-returned
returns-else-call-eq0-clause-returned c =
    let later : c.args.call ≢ 0 = search rules in
    let e = c.play.ensures in
    let entry = later_entry c.args.runner.now c.args.call later in
    let number = later_number c.args.number c.args.call c.args.runner.now.machine later in
    rw (entry, number) (returns_with _ _ _ _ _ _ e.returned e.in_budget e.registers)

pub returns-else-call-eq0-clause-takes : goal.returns-else-call-eq0-clause-takes
returns-else-call-eq0-clause-takes c =
    let later : c.args.call ≢ 0 = search rules in
    let e = c.play.ensures in
    let entry = later_entry c.args.runner.now c.args.call later in
    let number = later_number c.args.number c.args.call c.args.runner.now.machine later in
    rw (entry, number) (takes_with _ _ _ _ _ _ e.returned e.in_budget)

pub returns-else-call-eq0-clause-failed : goal.returns-else-call-eq0-clause-failed
returns-else-call-eq0-clause-failed c =
    let later : c.args.call ≢ 0 = search rules in
    let entry = later_entry c.args.runner.now c.args.call later in
    let number = later_number c.args.number c.args.call c.args.runner.now.machine later in
    rw (entry, number) (c.play.ensures.failed c.requires)
