use Rattle.song_join.proofs.FirstOpenings.{IsOpenlessBelow}
use Rattle.song_join.proofs.openings.begins_unnamed.Given as goal

abbrev pub invariant-loop-byte : goal.invariant-loop-byte
invariant-loop-byte l = IsOpenlessBelow l.song l.entries l.byte-index
