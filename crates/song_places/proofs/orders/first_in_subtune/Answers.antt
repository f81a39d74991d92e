use Rattle.std.proofs.lemmas.Option.{IfSome_then}
use Rattle.song_places.specs.Search.{meant}
use Rattle.song_places.proofs.Search.{none_then}
use Rattle.song_places.proofs.OrderPlaces.{first_in_three, none_in_three}
use Rattle.song_places.proofs.orders.first_in_subtune.Goals as goal

pub returns-clause-found : goal.returns-clause-found
returns-clause-found c =
    IfSome_then c.first_in_order-3.result c.first_in_order-3.ensures.found
    (λ place. first_in_three c.args.song.now (meant c.args.song.now c.args.wanted) c.args.number place
    c.in_default.ensures.none
    c.in_default-first_in_order.ensures.none)

pub returns-clause-none : goal.returns-clause-none
returns-clause-none c =
    none_then c.first_in_order-3.result c.first_in_order-3.ensures.none
    (none_in_three c.args.song.now (meant c.args.song.now c.args.wanted) c.args.number c.in_default.ensures.none
    c.in_default-first_in_order.ensures.none)
