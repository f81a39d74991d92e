use Rattle.std.proofs.Common.{rules, ◌+◌, ◌<◌, ◌∙◌, refl, sym, subst, arith, inl, inr}
use Rattle.std.proofs.lemmas.Bool.{cases_lt, false≢true}
use Rattle.song_length.specs.Plays.{Lead}
use Rattle.song_length.specs.Coming.{HasRepeat}
use Rattle.song_length.proofs.Repeating.{plus_by}
use Rattle.song_length.proofs.PlayingOn.{apart_more}
use Rattle.song_length.proofs.places.first_place.Goals as goal

-- one play more isn't more than there may be
still_few : (c : goal.After-play_on-in-loop-most) → c.loop-most.from < c.args.most
still_few c =
    let few = c.loop-most.invariant.few in
    let here = c.if-from-most.false in
    elim (cases_lt c.loop-most.from c.args.most) [
      | inl less ↦ less
      | inr more ↦ absurd (here (omega (arith, few, more)))
    ]

pub returns-then-from-most : goal.returns-then-from-most
returns-then-from-most c =
    let i = c.loop-most.invariant in
    λ place few.
    apart_more c.args.one.now.play c.loop-most.from c.args.one.now.machine c.args.other.now.machine c.loop-most.one.machine
    c.loop-most.other.machine i.one i.other
    (λ same. false≢true (c.loop-most-test.ensures.1 (c.machine.ensures ∙ same ∙ sym c.machine-in-loop-most.ensures)))
    i.apart place (let here = c.if-from-most.true in omega (arith, few, here))

pub returns : goal.returns
returns c =
    let i = c.loop-most.invariant in
    let same = sym c.machine.ensures ∙ c.loop-most-test.ensures.0 refl ∙ c.machine-in-loop-most.ensures in (
      i.few,
      record {
        machine = c.loop-most.one.machine;
        of_one = i.one;
        of_other =
            subst (λ m. Lead c.args.one.now.play c.loop-most.from c.args.other.now.machine m) (sym same) i.other;
      },
      i.apart,
    )

pub overflow_add-from : goal.overflow_add-from
overflow_add-from c = let less = still_few c in search (rules, less)

pub loop-most-smaller : goal.loop-most-smaller
loop-most-smaller c = let less = still_few c in omega (arith, less)

pub loop-most-preserved : goal.loop-most-preserved
loop-most-preserved c =
    let i = c.loop-most.invariant in
    let e = c.play_on.ensures in
    let f = c.play_on-in-loop-most.ensures in
    let less = still_few c in
    let p = c.args.one.now.play in
    let step = subst (λ q. Lead q 1 c.loop-most.one.machine c.play_on.new.runner.machine) i.one_address e.led in
    let other_step =
    subst (λ q. Lead q 1 c.loop-most.other.machine c.play_on-in-loop-most.new.runner.machine) i.other_address f.led in
    record {
      few = omega (arith, less);
      one =
          plus_by p c.loop-most.from 1 (c.loop-most.from + 1) c.args.one.now.machine c.loop-most.one.machine
          c.play_on.new.runner.machine (omega arith) i.one step;
      other =
          plus_by p c.loop-most.from 1 (c.loop-most.from + 1) c.args.other.now.machine c.loop-most.other.machine
          c.play_on-in-loop-most.new.runner.machine (omega arith) i.other other_step;
      one_repeats = subst (λ q. HasRepeat q c.play_on.new.runner.machine) i.one_address e.repeats;
      other_repeats = subst (λ q. HasRepeat q c.play_on-in-loop-most.new.runner.machine) i.other_address f.repeats;
      one_address = e.address ∙ i.one_address;
      other_address = f.address ∙ i.other_address;
      one_running = e.running;
      other_running = f.running;
      apart =
          apart_more p c.loop-most.from c.args.one.now.machine c.args.other.now.machine c.loop-most.one.machine
          c.loop-most.other.machine i.one i.other
          (λ same.
          false≢true (c.loop-most-test.ensures.1 (c.machine.ensures ∙ same ∙ sym c.machine-in-loop-most.ensures))) i.apart;
    }
