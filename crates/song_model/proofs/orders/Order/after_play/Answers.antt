use Rattle.std.proofs.Common.{◌≡◌, ◌-◌, ◌+◌, length, sym, ap, arith}
use Rattle.song_model.proofs.Rests.{after_a_repeat, after_the_last_inside}
use Rattle.song_model.proofs.orders.Order.after_play.Goals as goal

pub returns-then-after-gt0 : goal.returns-then-after-gt0
returns-then-after-gt0 c =
    sym (after_a_repeat c.args.self.now c.args.here.place c.args.here.transpose c.args.here.repeat
    (c.args.here.repeat - 1) c.requires.inside c.requires.pattern (omega arith))

pub returns-else-from-end : goal.returns-else-from-end
returns-else-from-end c =
    let same = ap length c.as_slice-end.ensures.bytes in
    let differs : ¬ (c.args.here.place + 1 ≡ length c.args.self.now.entries) = λ e. absurd (omega arith) in
    sym (after_the_last_inside c.args.self.now c.args.here.place c.args.here.transpose c.args.here.repeat
    c.requires.inside c.requires.pattern (omega arith) differs)
