use Rattle.usage.specs.Building.{SomeBelow}
use Rattle.number_range.specs.Sets.{IsSetOf}
use Rattle.number_range.proofs.MadeSets.{IsMovedIf}
use Rattle.number_range.proofs.sets.NumberSet.plus.Given as goal

abbrev pub invariant-loop-by : goal.invariant-loop-by
invariant-loop-by l = IsSetOf (SomeBelow (IsMovedIf l.self l.other) l.by) l.sums
