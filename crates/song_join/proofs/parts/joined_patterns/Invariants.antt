use Rattle.std.proofs.Common.{◌≡◌, ◌++◌, map, take}
use Rattle.song_join.specs.Numbers.{new_numbers}
use Rattle.song_join.specs.Joined.{moved_pattern_row}
use Rattle.song_join.proofs.parts.joined_patterns.Given as goal

abbrev pub invariant-loop-pattern : goal.invariant-loop-pattern
invariant-loop-pattern l =
    l.list.items ≡ l.first.patterns
    ++ map (map (moved_pattern_row (new_numbers l.first l.second))) (take l.pattern-index l.stored)
