use Rattle.std.proofs.Common.{map}
use Rattle.edit_ops.specs.Pointers.{shifted, moved_row}
use Rattle.edit_ops.proofs.NumberedLaws.{ChangedUpTo}
use Rattle.edit_ops.proofs.pointers.moved_patterns.Given as goal

abbrev pub invariant-loop-number : goal.invariant-loop-number
invariant-loop-number l = ChangedUpTo (map (moved_row l.name (shifted l.shift))) l.number l.stored l.parts.items
