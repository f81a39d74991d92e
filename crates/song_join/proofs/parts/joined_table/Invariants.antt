use Rattle.std.proofs.Common.{◌≡◌, ◌++◌, map, take}
use Rattle.song_model.specs.LookUp.{table_of}
use Rattle.same_frames.specs.Maps.{moved_row}
use Rattle.song_join.specs.Numbers.{new_numbers}
use Rattle.song_join.proofs.parts.joined_table.Given as goal

abbrev pub invariant-loop-row : goal.invariant-loop-row
invariant-loop-row l =
    l.list.items ≡ table_of l.first l.name
    ++ map (moved_row (new_numbers l.first l.second) l.name) (take l.row-index l.stored)
