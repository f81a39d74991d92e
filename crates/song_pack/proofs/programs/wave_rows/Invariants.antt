use Rattle.std.proofs.Common.{◌≡◌, map, take}
use Rattle.song_pack.specs.Numbers.{foreign_of, foreign_row}
use Rattle.song_pack.proofs.programs.wave_rows.Given as goal

abbrev pub invariant-loop-row : goal.invariant-loop-row
invariant-loop-row l = l.list.items ≡ map (foreign_row (foreign_of l.numbers)) (take l.row-index l.stored)
