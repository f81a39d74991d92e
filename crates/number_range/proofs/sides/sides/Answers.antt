use Rattle.std.proofs.Common.{arith}
use Rattle.number_range.specs.Numbers.{IsSideAt}
use Rattle.number_range.proofs.MadeSets.{below_first, below_more}
use Rattle.number_range.proofs.SoundedNumbers.{sides_are}
use Rattle.number_range.proofs.sides.sides.Goals as goal

pub loop-p-init : goal.loop-p-init
loop-p-init c = below_first (IsSideAt c.args.song.now c.args.own) c.none-sides.ensures

pub loop-p-preserved : goal.loop-p-preserved
loop-p-preserved c =
    below_more (IsSideAt c.args.song.now c.args.own) c.loop-p.p c.loop-p.invariant c.side_at.ensures
    c.union-sides.ensures

pub returns : goal.returns
returns c =
    sides_are c.args.song.now c.args.wave.now c.args.own c.loop-p.p c.requires (omega arith) c.loop-p.invariant
