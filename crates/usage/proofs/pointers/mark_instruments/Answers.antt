use Rattle.std.proofs.Common.{arith}
use Rattle.usage.specs.Pointers.{PointsAt}
use Rattle.usage.proofs.AddedMarks.{below_more}
use Rattle.usage.proofs.TablePointers.{all_instruments}
use Rattle.usage.proofs.pointers.mark_instruments.Goals as goal

pub loop-instrument-preserved : goal.loop-instrument-preserved
loop-instrument-preserved c = below_more (PointsAt c.args.song.now c.args.name) c.loop-instrument.instrument
    c.loop-instrument.invariant c.mark_instrument.ensures

pub returns : goal.returns
returns c = all_instruments c.args.song.now c.args.name c.args.used.now c.loop-instrument.instrument c.requires
    (omega arith) c.loop-instrument.invariant
