use Rattle.std.proofs.Common.{◌≡◌, ◌+◌, ◌-◌, ◌++◌, take, drop, reverse, vec_len, vec_capacity}
use Rattle.edit_ops.proofs.splices.move_last.Given as goal

abbrev pub invariant-loop-i : goal.invariant-loop-i
invariant-loop-i g l =
    (l.from.items ≡ take (vec_len l.fn.from - l._i) l.fn.from.items)
    × (l.to.items ≡ l.fn.to.items ++ reverse (drop (vec_len l.fn.from - l._i) l.fn.from.items))
    × (vec_len l.from + l._i ≡ vec_len l.fn.from)
    × (vec_len l.to ≡ vec_len l.fn.to + l._i)
    × (vec_capacity l.from ≡ vec_capacity l.fn.from)
    × (vec_capacity l.to ≡ vec_capacity l.fn.to)
