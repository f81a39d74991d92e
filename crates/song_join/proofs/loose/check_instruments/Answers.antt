use Rattle.song_join.specs.Loose.{IsLooseInstrument}
use Rattle.song_join.proofs.NotStored.{instrument_loose, no_instrument_loose, second_song_loose}
use Rattle.song_join.proofs.loose.check_instruments.Goals as goal

pub returns-in-Some-first_above-clause-found : goal.returns-in-Some-first_above-clause-found
returns-in-Some-first_above-clause-found c =
    let loose =
    instrument_loose c.args.second.now c.args.second_parts.now.instruments c.in-Some-first_above.instrument
    c.requires.second_parts.instruments
    (rw c.as_slice-second_stored.ensures.items at c.in-Some-first_above.ensures.found) in (
      c.requires.within,
      second_song_loose IsLooseInstrument c.args.first.now c.args.second.now c.in-Some-first_above.instrument loose.0
          loose.1
          (no_instrument_loose c.args.first.now c.args.first_parts.now.instruments c.requires.first_parts.instruments
          (rw c.as_slice-first_stored.ensures.items at c.in_default.ensures.none)),
    )
