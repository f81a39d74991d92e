use Rattle.std.proofs.Common.{refl}
use Rattle.song_length.proofs.PlayingOn.{never_fails, repeat_on}
use Rattle.song_length.proofs.places.play_on.Goals as goal

pub unreachable-requires : goal.unreachable-requires
unreachable-requires c =
    never_fails c.args.runner.now.play c.args.runner.now.machine 0 c.args.runner.now.machine c.play.new.self.machine
    c.in-Err._reason c.requires.repeats refl (c.in-Err.ensures.failed c.requires.running)

pub returns-clause-repeats : goal.returns-clause-repeats
returns-clause-repeats c =
    let e = c.in-Ok.ensures in
    repeat_on c.args.runner.now.play c.args.runner.now.machine c.play.new.self.machine 1 c.requires.repeats
    (c.args.runner.now.machine, c.play.new.self.spent, refl, record { called = e.returned; within = e.in_budget })
