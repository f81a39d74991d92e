use Rattle.std.proofs.Common.{◌≡◌, map, take}
use Rattle.edit_ops.specs.Patterns.{transposed}
use Rattle.edit_ops.proofs.patterns.all_transposed.Given as goal

abbrev pub invariant-loop-row : goal.invariant-loop-row
invariant-loop-row l = l.list.items ≡ map (transposed l.byte) (take l.row-index l.rows)
