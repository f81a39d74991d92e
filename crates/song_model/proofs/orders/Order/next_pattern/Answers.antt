use Rattle.std.proofs.Common.{◌<◌, ◌≤◌, length, ap, arith}
use Rattle.song_model.proofs.Rests.{GoesRound, place_in_round, play_in_next_round, place_in_next_round, inside_next_round}
use Rattle.song_model.proofs.orders.Order.next_pattern.Goals as goal

pub returns-then-from-as_slice-clause-place : goal.returns-then-from-as_slice-clause-place
returns-then-from-as_slice-clause-place c =
    let same = ap length c.as_slice.ensures.bytes in
    let inside : c.along-here.result.place < length c.args.self.now.entries = omega arith in
    place_in_round c.args.self.now c.args.at c.along-here.result c.along-here.ensures.rest inside
    (c.along-here.ensures.pattern inside)

pub returns : goal.returns
returns c =
    let same = ap length c.as_slice.ensures.bytes in
    let ended : length c.args.self.now.entries ≤ c.along-here.result.place = omega arith in
    let round : GoesRound c.args.self.now c.args.at c.along-here.result c.along.result =
    record {
      on_walk = c.requires.on_walk;
      along = c.along-here.ensures.rest;
      ended = ended;
      again = c.along.ensures.rest;
    } in
    let inside =
    inside_next_round c.args.self.now c.args.at c.along-here.result c.along.result c.requires.endless round in
    record {
      inside = inside;
      pattern = c.along.ensures.pattern inside;
      play = play_in_next_round c.args.self.now c.args.at c.along-here.result c.along.result round;
      place = place_in_next_round c.args.self.now c.args.at c.along-here.result c.along.result round;
    }
