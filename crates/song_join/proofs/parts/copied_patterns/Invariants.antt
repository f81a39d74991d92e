use Rattle.std.proofs.Common.{◌≡◌, take}
use Rattle.song_join.proofs.parts.copied_patterns.Given as goal

abbrev pub invariant-loop-pattern : goal.invariant-loop-pattern
invariant-loop-pattern l =
    l.list.items ≡ take l.pattern-index l.stored
