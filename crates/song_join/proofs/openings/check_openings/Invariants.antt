use Rattle.song_join.proofs.Channels.{AreNamedUpTo}
use Rattle.song_join.proofs.openings.check_openings.Given as goal

abbrev pub invariant-loop-subtune : goal.invariant-loop-subtune
invariant-loop-subtune l = AreNamedUpTo l.song l.subtune-index l.number
