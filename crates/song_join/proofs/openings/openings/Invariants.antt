use Rattle.song_join.proofs.FoundOpenings.{AreOpeningsBelow}
use Rattle.song_join.proofs.openings.openings.Given as goal

abbrev pub invariant-loop-n : goal.invariant-loop-n
invariant-loop-n l = AreOpeningsBelow l.stored l.openings l.n
