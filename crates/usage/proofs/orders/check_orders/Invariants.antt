use Rattle.usage.specs.Search.{IsNowhere, FailsUpTo}
use Rattle.usage.proofs.orders.check_orders.Given as goal

abbrev pub invariant-loop-i : goal.invariant-loop-i
invariant-loop-i l = IsNowhere (FailsUpTo l.rule l.song l.i)
