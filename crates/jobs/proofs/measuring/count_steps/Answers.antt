use Rattle.std.proofs.Common.{◌+◌, refl, sym, ◌∙◌, subst, arith}
use Rattle.song_length.specs.Plays.{Takes}
use Rattle.jobs.specs.Calls.{entry_of, accumulator_of}
use Rattle.jobs.proofs.Measured.{none_fails, call_taken, none_taken, few_taken, all_taken}
use Rattle.jobs.proofs.measuring.count_steps.Goals as goal

pub loop-call-init : goal.loop-call-init
loop-call-init c = none_taken c.args.runner.now c.args.subtune c.requires.running

pub unreachable-requires : goal.unreachable-requires
unreachable-requires c =
    none_fails 301 c.next_call.new.runner.machine c.in-Err.field-0 c.requires.returns c.loop-call.invariant
    c.loop-call-test.true c.in-Err.ensures.failed

pub overflow_add-steps : goal.overflow_add-steps
overflow_add-steps c =
    let inside = c.loop-call-test.true in
    let so_far = few_taken c.loop-call.invariant (omega (arith, inside)) in
    let own = c.in-Ok.ensures.takes.within in
    let same = c.from-steps.ensures in
    let spent = c.spent.ensures in
    omega (arith, so_far, own, same, spent)

pub loop-call-preserved : goal.loop-call-preserved
loop-call-preserved c =
    let e = c.in-Ok.ensures in
    let own = c.from-steps.ensures ∙ c.spent.ensures in
    call_taken c.next_call.new.runner c.from-steps.result (c.loop-call.steps + c.from-steps.result) c.loop-call.invariant
    (subst (λ n. Takes c.loop-call.runner.machine (entry_of c.loop-call.runner c.loop-call.call)
    (accumulator_of c.args.subtune c.loop-call.call c.loop-call.runner.machine) n c.next_call.new.runner.machine) (sym own)
    e.takes)
    e.same_init e.same_play e.running refl

pub returns-clause-take : goal.returns-clause-take
returns-clause-take c = all_taken c.loop-call.invariant c.loop-call.auto.call-end c.loop-call-test.false

pub returns-clause-most : goal.returns-clause-most
returns-clause-most c = few_taken c.loop-call.invariant c.loop-call.auto.call-end
