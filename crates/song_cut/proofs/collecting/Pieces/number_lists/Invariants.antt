use Rattle.std.proofs.Common.{◌*◌}
use Rattle.song_cut.specs.Numbers.{most_of, IsCollected, Grows}
use Rattle.song_cut.specs.Tables.{AreLists, AreNumbers}
use Rattle.song_cut.proofs.collecting.Pieces.number_lists.Given as goal

abbrev pub invariant-loop-p : goal.invariant-loop-p
invariant-loop-p l = record {
  collected : IsCollected l.self;
  grown : Grows (most_of l.size * l.p) l.initial.self.list.items l.self.list.items;
  lists : AreLists l.p l.lists.items;
  numbers : AreNumbers l.song l.self.list.items l.size l.p l.lists.items;
}
