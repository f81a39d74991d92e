use Rattle.std.proofs.Common.{◌-◌, ◌∙◌, subst, arith}
use Rattle.song_length.specs.Plays.{Lead}
use Rattle.song_length.specs.Coming.{HasRepeat}
use Rattle.song_length.proofs.Repeating.{plus_by}
use Rattle.song_length.proofs.places.advance.Goals as goal

pub loop-left-preserved : goal.loop-left-preserved
loop-left-preserved c =
    let i = c.loop-left.invariant in
    let e = c.play_on.ensures in
    let some = c.loop-left-test.true in
    let few = i.few in
    let step = subst (λ p. Lead p 1 c.loop-left.runner.machine c.play_on.new.runner.machine) i.address e.led in
    record {
      few = omega (arith, few);
      led =
          plus_by c.args.runner.now.play (c.args.plays - c.loop-left.left) 1 (c.args.plays - (c.loop-left.left - 1))
          c.args.runner.now.machine c.loop-left.runner.machine c.play_on.new.runner.machine (omega (arith, few, some)) i.led
          step;
      repeats = subst (λ p. HasRepeat p c.play_on.new.runner.machine) i.address e.repeats;
      address = e.address ∙ i.address;
      running = e.running;
    }
