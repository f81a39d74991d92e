use Rattle.usage.proofs.Refusals.{none_at_end}
use Rattle.usage.proofs.parts.check_all_orders.Goals as goal

pub returns-clause-none : goal.returns-clause-none
returns-clause-none c =
    none_at_end c.args.song.now c.check_orders-2.result (rw c.playable_count.ensures at c.if-playable_count-eq0.false)
    c.in_ok-check_orders.ensures.none
    c.check_orders-2.ensures.none
