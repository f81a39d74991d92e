use Rattle.packing_rules.specs.Renumbering.{place_in}
use Rattle.song_pack.proofs.FilledLists.{FilledTo}
use Rattle.song_pack.proofs.numbers.instrument_numbers.Given as goal

abbrev pub invariant-loop-n : goal.invariant-loop-n
invariant-loop-n l = FilledTo (place_in l.order) 64 l.n l.to
