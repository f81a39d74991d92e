use Rattle.song_places.proofs.PlaceOrder.{first_of_two}
use Rattle.song_places.proofs.part_places.earlier.Goals as goal

pub returns-in-Some-Some-clause-first : goal.returns-in-Some-Some-clause-first
returns-in-Some-Some-clause-first c =
    rw (c.min.ensures, c.in-Some-Some.is-0, c.in-Some-Some.is-1)
    (first_of_two c.in-Some-Some.place c.in-Some-Some.second)
