use Rattle.std.proofs.Common.{◌≡◌, ◌∷◌, ◌++◌, length, take}
use Rattle.std.specs.List.{flat_map}
use Rattle.song_model.specs.Canonical.{instrument_text}
use Rattle.gts5.proofs.writing.put_instruments.Given as goal

abbrev pub invariant-loop-instrument : goal.invariant-loop-instrument
invariant-loop-instrument l = l.out.items ≡ l.fn.out.items ++ length l.instruments ∷ flat_map instrument_text
    (take l.instrument-index l.instruments)
