use Rattle.pattern_pack.proofs.Walks.{Walked}
use Rattle.pattern_pack.proofs.unpacking.read.Given as goal

abbrev pub invariant-loop-offset : goal.invariant-loop-offset
invariant-loop-offset l = Walked l.bytes l.rows l.place l.offset
