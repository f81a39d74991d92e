use Rattle.usage.proofs.OrderRules.{none_up_to_more, none_in_song}
use Rattle.usage.proofs.orders.check_orders.Goals as goal

pub loop-i-preserved : goal.loop-i-preserved
loop-i-preserved c = none_up_to_more c.args.rule c.args.song.now c.loop-i.i c.loop-i.invariant
    c.in_ok-check_subtune.ensures.none

pub returns-clause-none : goal.returns-clause-none
returns-clause-none c =
    none_in_song c.args.rule c.args.song.now c.loop-i.i (rw c.as_slice-subtunes.ensures.items at c.loop-i-test.false)
    c.loop-i.invariant
