use Rattle.song_join.proofs.FirstOver.{AreWithinBelow}
use Rattle.song_join.proofs.limits.check_limits.Given as goal

abbrev pub invariant-loop-part : goal.invariant-loop-part
invariant-loop-part l = AreWithinBelow l.first l.second l.part-index
