use Rattle.std.proofs.Common.{map}
use Rattle.std.specs.List.{range_with_len}
use Rattle.pattern_cut.specs.Pieces.{slice}
use Rattle.song_cut.specs.Numbers.{IsCollected, Grows, AreNumbersOf}
use Rattle.song_cut.proofs.collecting.Pieces.numbers_of.Given as goal

abbrev pub invariant-loop-i : goal.invariant-loop-i
invariant-loop-i l = record {
  collected : IsCollected l.self;
  grown : Grows l.i l.initial.self.list.items l.self.list.items;
  numbers : AreNumbersOf l.self.list.items (map (slice l.n l.rows) (range_with_len 0 l.i)) l.numbers.items;
}
