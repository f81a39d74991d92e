use Rattle.std.proofs.Common.{◌≡◌, map, take}
use Rattle.song_join.specs.Numbers.{new_numbers}
use Rattle.song_join.specs.Joined.{moved_pattern_row}
use Rattle.song_join.proofs.parts.moved_pattern.Given as goal

abbrev pub invariant-loop-row : goal.invariant-loop-row
invariant-loop-row l =
    l.rows.items ≡ map (moved_pattern_row (new_numbers l.first l.second)) (take l.row-index l.stored)
