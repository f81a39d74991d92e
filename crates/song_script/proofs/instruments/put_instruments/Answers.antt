use Rattle.std.proofs.Common.{◌+◌, arith}
use Rattle.song_script.specs.Parts.{instrument_said}
use Rattle.song_script.proofs.PutLaws.{each_more}
use Rattle.song_script.proofs.instruments.put_instruments.Goals as goal

pub loop-place-preserved : goal.loop-place-preserved
loop-place-preserved c =
    each_more 1 instrument_said c.as_slice-instruments.result.now c.loop-place.place (c.loop-place.place + 1) _ _ _ _
    c.loop-place-test.true c.loop-place.invariant c.in_ok-put_instrument.ensures
    (omega arith)
