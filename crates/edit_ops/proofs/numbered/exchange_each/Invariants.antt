use Rattle.std.proofs.Common.{◌≡◌, ◌++◌, take, drop}
use Rattle.edit_ops.specs.Numbered.{with_all, exchanged}
use Rattle.edit_ops.proofs.numbered.exchange_each.Given as goal

abbrev pub invariant-loop-i : goal.invariant-loop-i
invariant-loop-i l =
    (l.patterns ≡ with_all l.fn.patterns (take l.i l.fn.parts.items))
    × (l.parts.items ≡ exchanged l.fn.patterns (take l.i l.fn.parts.items) ++ drop l.i l.fn.parts.items)
