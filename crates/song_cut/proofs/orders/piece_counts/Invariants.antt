use Rattle.song_cut.proofs.Counting.{CountedTo}
use Rattle.song_cut.proofs.orders.piece_counts.Given as goal

abbrev pub invariant-loop-p : goal.invariant-loop-p
invariant-loop-p l = CountedTo l.table l.ways l.p l.counts
