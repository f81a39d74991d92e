use Rattle.std.proofs.Common.{◌≡◌, map, take}
use Rattle.song_cut.specs.Numbers.{rows_at}
use Rattle.song_cut.proofs.cutting.cut_patterns.Given as goal

abbrev pub invariant-loop-number : goal.invariant-loop-number
invariant-loop-number l = l.list.items ≡ map (rows_at l.table.pieces.items) (take l.number-index l.order)
