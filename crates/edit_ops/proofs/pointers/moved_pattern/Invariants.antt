use Rattle.std.proofs.Common.{◌≡◌, map, take}
use Rattle.edit_ops.specs.Pointers.{shifted, moved_row}
use Rattle.edit_ops.proofs.pointers.moved_pattern.Given as goal

abbrev pub invariant-loop-row : goal.invariant-loop-row
invariant-loop-row l = l.list.items ≡ map (moved_row l.name (shifted l.shift)) (take l.row-index l.stored)
