use Rattle.std.proofs.Common.{arith}
use Rattle.song_script.specs.Parts.{entry_said}
use Rattle.song_script.proofs.PutLaws.{each_more}
use Rattle.song_script.proofs.orders.put_entries.Goals as goal

pub loop-place-preserved : goal.loop-place-preserved
loop-place-preserved c =
    each_more 0 (entry_said c.args.subtune c.args.channel) c.as_slice-entries.result.now c.loop-place.place
    c.loop-place.place _ _ _ _ c.loop-place-test.true c.loop-place.invariant c.in_ok-put_line.ensures
    (omega arith)
