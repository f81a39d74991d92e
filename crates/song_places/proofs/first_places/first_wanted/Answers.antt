use Rattle.std.proofs.lemmas.Option.{IfSome_then}
use Rattle.song_places.specs.Search.{meant}
use Rattle.song_places.proofs.Search.{none_then}
use Rattle.song_places.proofs.SongPlaces.{first_in_orders, first_in_patterns, first_in_instruments, first_in_waves, none_in_waves}
use Rattle.song_places.proofs.first_places.first_wanted.Goals as goal

pub returns-in-Some-clause-found : goal.returns-in-Some-clause-found
returns-in-Some-clause-found c =
    first_in_orders c.args.song.now (meant c.args.song.now c.args.wanted) c.in-Some.place c.in-Some.ensures.found

pub returns-in-Some-first_in_patterns-clause-found : goal.returns-in-Some-first_in_patterns-clause-found
returns-in-Some-first_in_patterns-clause-found c =
    first_in_patterns c.args.song.now (meant c.args.song.now c.args.wanted) c.in-Some-first_in_patterns.place
    c.in_default.ensures.none c.in-Some-first_in_patterns.ensures.found

pub returns-in-Some-first_instrument-clause-found : goal.returns-in-Some-first_instrument-clause-found
returns-in-Some-first_instrument-clause-found c =
    first_in_instruments c.args.song.now (meant c.args.song.now c.args.wanted) c.in-Some-first_instrument.place
    c.in_default.ensures.none c.in_default-first_in_patterns.ensures.none c.in-Some-first_instrument.ensures.found

pub returns-clause-found : goal.returns-clause-found
returns-clause-found c =
    IfSome_then c.first_wave_row.result c.first_wave_row.ensures.found
    (λ place. first_in_waves c.args.song.now (meant c.args.song.now c.args.wanted) place c.in_default.ensures.none
    c.in_default-first_in_patterns.ensures.none c.in_default-first_instrument.ensures.none)

pub returns-clause-none : goal.returns-clause-none
returns-clause-none c =
    none_then c.first_wave_row.result c.first_wave_row.ensures.none
    (none_in_waves c.args.song.now (meant c.args.song.now c.args.wanted) c.in_default.ensures.none
    c.in_default-first_in_patterns.ensures.none c.in_default-first_instrument.ensures.none)
