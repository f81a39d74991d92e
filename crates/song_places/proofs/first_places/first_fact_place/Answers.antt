use Rattle.song_places.specs.Needs.{need_of_fact}
use Rattle.song_places.specs.Places.{NeedsFactAt}
use Rattle.song_places.proofs.FactPlaces.{has_fact_place, has_fact}
use Rattle.song_places.proofs.OnePlace.{found_exactly, found_if_had, none_exactly}
use Rattle.song_places.proofs.first_places.first_fact_place.Goals as goal

pub returns-then-not-is_had-clause-first : goal.returns-then-not-is_had-clause-first
returns-then-not-is_had-clause-first c =
    none_exactly (NeedsFactAt c.args.song.now c.args.fact)
    (λ place needs.
    absurd (let e = c.is_had.ensures.1 (has_fact c.args.song.now c.args.fact place needs) in
    let f = c.if-not-is_had.true in cc))

pub returns-clause-first : goal.returns-clause-first
returns-clause-first c =
    found_exactly c.args.song.now (NeedsFactAt c.args.song.now c.args.fact) (need_of_fact c.args.song.now c.args.fact)
    (λ place. (λ needed. needed, λ needed. needed))
    c.first_wanted.result c.first_wanted.ensures.found c.first_wanted.ensures.none

pub returns-clause-had : goal.returns-clause-had
returns-clause-had c =
    let has = c.is_had.ensures.0 c.if-not-is_had.false in
    let at = has_fact_place c.args.song.now c.args.fact has in
    found_if_had c.args.song.now (NeedsFactAt c.args.song.now c.args.fact) (need_of_fact c.args.song.now c.args.fact)
    (λ place. (λ needed. needed, λ needed. needed)) c.first_wanted.result has at.place at.needs
    c.first_wanted.ensures.none
