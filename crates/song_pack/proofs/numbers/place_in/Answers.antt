use Rattle.song_pack.proofs.FoundPlaces.{some_place, no_place}
use Rattle.song_pack.proofs.numbers.place_in.Goals as goal

pub returns-in-Some-clause-place : goal.returns-in-Some-clause-place
returns-in-Some-clause-place c =
    some_place c.args.order.now c.args.n c.in-Some.place (c.in-Some.ensures.place)

pub returns-in-None-clause-place : goal.returns-in-None-clause-place
returns-in-None-clause-place c = no_place c.args.order.now c.args.n c.in-None.ensures.place
