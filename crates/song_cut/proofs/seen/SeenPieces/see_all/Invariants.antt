use Rattle.std.proofs.Common.{take}
use Rattle.song_cut.specs.Seen.{gathered, AreSeen}
use Rattle.song_cut.proofs.seen.SeenPieces.see_all.Given as goal

abbrev pub invariant-loop-number : goal.invariant-loop-number
invariant-loop-number l = AreSeen (gathered l.initial.self.numbers.items (take l.number-index l.numbers)) l.self
