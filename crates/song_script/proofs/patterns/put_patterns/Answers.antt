use Rattle.std.proofs.Common.{arith}
use Rattle.song_script.specs.Parts.{pattern_said}
use Rattle.song_script.proofs.PutLaws.{each_item}
use Rattle.song_script.proofs.patterns.put_patterns.Goals as goal

pub loop-place-preserved : goal.loop-place-preserved
loop-place-preserved c =
    each_item 0 pattern_said c.as_slice-patterns.result.now c.loop-place.place c.loop-place.place _ _ _ _
    c.loop-place-test.true c.index-patterns-place.is c.loop-place.invariant c.in_ok-put_pattern.ensures
    (omega arith)
