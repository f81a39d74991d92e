use Rattle.usage.specs.Building.{SomeBelow}
use Rattle.number_range.specs.Sets.{IsSetOf}
use Rattle.number_range.specs.Numbers.{IsSideAt}
use Rattle.number_range.proofs.sides.sides.Given as goal

abbrev pub invariant-loop-p : goal.invariant-loop-p
invariant-loop-p l = IsSetOf (SomeBelow (IsSideAt l.song l.own) l.p) l.sides
