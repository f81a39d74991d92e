use Rattle.song_cut.proofs.Placing.{PlacedTo}
use Rattle.song_cut.proofs.cutting.place_lists.Given as goal

abbrev pub invariant-loop-p : goal.invariant-loop-p
invariant-loop-p l = PlacedTo l.table l.ways l.order l.p l.lists.items
