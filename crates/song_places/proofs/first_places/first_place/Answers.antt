use Rattle.song_places.specs.Places.{NeedsAt}
use Rattle.song_places.specs.Search.{meant}
use Rattle.song_places.proofs.FeaturePlaces.{has_place, has_feature}
use Rattle.song_places.proofs.OnePlace.{found_exactly, found_if_had, none_exactly}
use Rattle.song_places.proofs.first_places.first_place.Goals as goal

pub returns-then-not-is_used-clause-first : goal.returns-then-not-is_used-clause-first
returns-then-not-is_used-clause-first c =
    none_exactly (NeedsAt c.args.song.now c.args.feature)
    (λ place needs.
    absurd (let e = c.is_used.ensures.1 (has_feature c.args.song.now c.args.feature place needs) in
    let f = c.if-not-is_used.true in cc))

pub returns-clause-first : goal.returns-clause-first
returns-clause-first c =
    found_exactly c.args.song.now (NeedsAt c.args.song.now c.args.feature) (meant c.args.song.now c.of.result)
    (c.of.ensures c.args.song.now (c.is_used.ensures.0 c.if-not-is_used.false))
    c.first_wanted.result c.first_wanted.ensures.found c.first_wanted.ensures.none

pub returns-clause-used : goal.returns-clause-used
returns-clause-used c =
    let has = c.is_used.ensures.0 c.if-not-is_used.false in
    let at = has_place c.args.song.now c.args.feature has in
    found_if_had c.args.song.now (NeedsAt c.args.song.now c.args.feature) (meant c.args.song.now c.of.result)
    (c.of.ensures c.args.song.now has) c.first_wanted.result has at.place at.needs c.first_wanted.ensures.none
