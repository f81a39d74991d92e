use Rattle.std.proofs.Common.{nat_eq}
use Rattle.song_cut.proofs.Places.{some_place, no_place}
use Rattle.song_cut.proofs.cutting.place_of.Goals as goal

pub returns-in-Some : goal.returns-in-Some
returns-in-Some c =
    some_place (nat_eq c.args.number) c.args.order.now c.in-Some.place c.in-Some.ensures.place

pub returns-in-None : goal.returns-in-None
returns-in-None c = no_place (nat_eq c.args.number) c.args.order.now c.in-None.ensures.place
