use Rattle.std.proofs.Common.{arith}
use Rattle.usage.specs.Programs.{ComesFrom}
use Rattle.usage.proofs.AddedMarks.{below_first, below_more}
use Rattle.usage.proofs.Following.{nothing_is_closed, all_reached}
use Rattle.usage.proofs.programs.reached.Goals as goal

pub loop-from-init : goal.loop-from-init
loop-from-init c = record {
  closed = nothing_is_closed c.args.name c.args.rows.now;
  marked = below_first (ComesFrom c.args.name c.args.rows.now c.args.pointers.now) _;
}

pub loop-from-preserved : goal.loop-from-preserved
loop-from-preserved c = record {
  closed = c.follow_if.ensures.closed;
  marked = below_more (ComesFrom c.args.name c.args.rows.now c.args.pointers.now) c.loop-from.from
      c.loop-from.invariant.marked c.follow_if.ensures.marked;
}

pub returns : goal.returns
returns c = all_reached c.args.name c.args.rows.now c.args.pointers.now c.loop-from.from (omega arith)
    c.loop-from.invariant.marked
