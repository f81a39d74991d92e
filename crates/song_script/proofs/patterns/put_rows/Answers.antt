use Rattle.std.proofs.Common.{arith}
use Rattle.song_script.specs.Parts.{row_said}
use Rattle.song_script.proofs.PutLaws.{each_more}
use Rattle.song_script.proofs.patterns.put_rows.Goals as goal

pub loop-place-preserved : goal.loop-place-preserved
loop-place-preserved c =
    each_more 0 (row_said c.args.number) c.as_slice-rows.result.now c.loop-place.place c.loop-place.place _ _ _ _
    c.loop-place-test.true c.loop-place.invariant c.in_ok-put_row.ensures
    (omega arith)
