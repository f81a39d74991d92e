use Rattle.std.proofs.Common.{◌+◌, arith}
use Rattle.song_script.specs.Parts.{subtune_said}
use Rattle.song_script.proofs.PutLaws.{each_item}
use Rattle.song_script.proofs.orders.put_subtunes.Goals as goal

pub loop-place-preserved : goal.loop-place-preserved
loop-place-preserved c =
    each_item 1 subtune_said c.as_slice-subtunes.result.now c.loop-place.place (c.loop-place.place + 1) _ _ _ _
    c.loop-place-test.true c.index-subtunes-place.is c.loop-place.invariant c.in_ok-put_subtune.ensures
    (omega arith)
