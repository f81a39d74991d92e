use Rattle.std.proofs.Common.{ℕ, ◌<◌}
use Rattle.song_model.specs.LookUp.{instrument_at}
use Rattle.song_facts.specs.Hold.{HoldsMore}
use Rattle.usage.specs.Marks.{IsMarked}
use Rattle.usage.proofs.facts.first_holds.Given as goal

abbrev pub invariant-loop-instrument : goal.invariant-loop-instrument
invariant-loop-instrument l =
    (i : ℕ) → i < l.instrument → IsMarked l.used i →
    ¬ HoldsMore (instrument_at l.song 1) (instrument_at l.song i)
