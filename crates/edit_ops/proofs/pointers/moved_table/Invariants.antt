use Rattle.std.proofs.Common.{◌≡◌, map, take}
use Rattle.edit_ops.specs.Pointers.{shifted, moved_table_row}
use Rattle.edit_ops.proofs.pointers.moved_table.Given as goal

abbrev pub invariant-loop-row : goal.invariant-loop-row
invariant-loop-row l = l.list.items ≡ map (moved_table_row l.name l.holder (shifted l.shift))
    (take l.row-index l.stored)
