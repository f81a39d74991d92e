use Rattle.song_places.specs.PartPlaces.{NeedsFeatureFor, NeedsFactFor}
use Rattle.song_places.proofs.PlaceOrder.{first_if_some, none_if_none}
use Rattle.song_places.proofs.part_places.part_place.Goals as goal

pub returns-clause-first : goal.returns-clause-first
returns-clause-first c =
    first_if_some (NeedsFeatureFor c.args.song.now c.args.part) (NeedsFactFor c.args.song.now c.args.part)
    c.feature_place.result c.fact_place.result c.earlier.result c.feature_place.ensures.first
    c.feature_place.ensures.none c.fact_place.ensures.first c.fact_place.ensures.none c.earlier.ensures.first

pub returns-clause-none : goal.returns-clause-none
returns-clause-none c =
    none_if_none (NeedsFeatureFor c.args.song.now c.args.part) (NeedsFactFor c.args.song.now c.args.part)
    c.feature_place.result c.fact_place.result c.earlier.result c.feature_place.ensures.none
    c.fact_place.ensures.none c.earlier.ensures.none
