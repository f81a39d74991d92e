use Rattle.std.proofs.Common.{[], ◌∷◌, arith}
use Rattle.song_places.specs.Search.{meant}
use Rattle.song_places.proofs.Search.{none_more}
use Rattle.song_places.proofs.MarkedPlaces.{instrument_found, instrument_passed, instruments_end}
use Rattle.song_places.proofs.instruments.first_instrument.Goals as goal

pub returns-then-is_wanted-clause-found : goal.returns-then-is_wanted-clause-found
returns-then-is_wanted-clause-found c =
    instrument_found c.args.song.now (meant c.args.song.now c.args.wanted) c.loop-instrument.instrument
    (c.is_wanted.ensures.0 c.if-is_wanted.true) c.loop-instrument.invariant

pub loop-instrument-preserved : goal.loop-instrument-preserved
loop-instrument-preserved c =
    none_more c.args.song.now (meant c.args.song.now c.args.wanted) (3 ∷ []) c.loop-instrument.instrument
    c.loop-instrument.invariant
    (instrument_passed c.args.song.now (meant c.args.song.now c.args.wanted) c.loop-instrument.instrument
    (λ at. absurd (let e = c.is_wanted.ensures.1 at in let f = c.if-is_wanted.false in cc)))

pub returns-clause-none : goal.returns-clause-none
returns-clause-none c =
    instruments_end c.args.song.now (meant c.args.song.now c.args.wanted) c.loop-instrument.instrument
    c.args.used.now c.requires (omega arith) c.loop-instrument.invariant
