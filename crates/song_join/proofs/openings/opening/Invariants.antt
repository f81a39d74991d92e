use Rattle.song_join.proofs.FirstOpenings.{NoneOpensBelow}
use Rattle.song_join.proofs.openings.opening.Given as goal

abbrev pub invariant-loop-row : goal.invariant-loop-row
invariant-loop-row l = NoneOpensBelow l.rows l.row-index
