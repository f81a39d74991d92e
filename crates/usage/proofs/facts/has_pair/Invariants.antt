use Rattle.std.proofs.Common.{ℕ, ◌<◌}
use Rattle.song_model.specs.LookUp.{instrument_at}
use Rattle.song_facts.specs.Facts.{IsOfPair}
use Rattle.usage.specs.Marks.{IsMarked}
use Rattle.usage.proofs.facts.has_pair.Given as goal

abbrev pub invariant-loop-instrument : goal.invariant-loop-instrument
invariant-loop-instrument l =
    (i : ℕ) → i < l.instrument → IsMarked l.used i →
    ¬ IsOfPair l.fact (instrument_at l.song 1) (instrument_at l.song i)
