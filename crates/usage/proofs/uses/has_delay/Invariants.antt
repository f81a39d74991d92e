use Rattle.std.proofs.Common.{◌≡◌, ℕ, ◌<◌}
use Rattle.song_model.specs.LookUp.{instrument_at}
use Rattle.usage.specs.Marks.{IsMarked}
use Rattle.usage.proofs.uses.has_delay.Given as goal

abbrev pub invariant-loop-instrument : goal.invariant-loop-instrument
invariant-loop-instrument l = (i : ℕ) → i < l.instrument → IsMarked l.used i →
    (instrument_at l.song i).vibrato_delay ≡ 0
