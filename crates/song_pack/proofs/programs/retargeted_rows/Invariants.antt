use Rattle.std.proofs.Common.{◌≡◌, map, take, slice_index}
use Rattle.packing_rules.specs.ProgramMaps.{retargeted}
use Rattle.song_pack.proofs.programs.retargeted_rows.Given as goal

abbrev pub invariant-loop-row : goal.invariant-loop-row
invariant-loop-row l = l.list.items ≡ map (retargeted (slice_index l.to)) (take l.row-index l.stored)
