use Rattle.std.proofs.Common.{◌≡◌, ◌∷◌, ◌++◌, length, take}
use Rattle.std.specs.List.{flat_map}
use Rattle.song_model.specs.Canonical.{pattern_text}
use Rattle.gts5.proofs.writing.put_patterns.Given as goal

abbrev pub invariant-loop-pattern : goal.invariant-loop-pattern
invariant-loop-pattern l = l.out.items ≡ l.fn.out.items ++ length l.patterns ∷ flat_map pattern_text
    (take l.pattern-index l.patterns)
