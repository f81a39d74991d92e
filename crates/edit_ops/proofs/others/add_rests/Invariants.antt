use Rattle.std.proofs.Common.{◌≡◌, ◌≤◌, ◌++◌, replicate, vec_capacity}
use Rattle.edit_ops.specs.Others.{rest_pattern}
use Rattle.edit_ops.proofs.others.add_rests.Given as goal

abbrev pub invariant-loop-i : goal.invariant-loop-i
invariant-loop-i l =
    (l.list.items ≡ l.fn.list.items ++ replicate l._i rest_pattern) × (vec_capacity l.fn.list ≤ vec_capacity l.list)
