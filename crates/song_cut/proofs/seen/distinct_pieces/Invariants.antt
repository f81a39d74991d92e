use Rattle.std.proofs.Common.{[]}
use Rattle.song_cut.specs.Tables.{numbers_below}
use Rattle.song_cut.specs.Seen.{gathered, AreSeen}
use Rattle.song_cut.proofs.seen.distinct_pieces.Given as goal

abbrev pub invariant-loop-p : goal.invariant-loop-p
invariant-loop-p l = AreSeen (gathered [] (numbers_below l.table l.ways l.p)) l.seen
