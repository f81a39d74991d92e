use Rattle.usage.specs.Building.{Adds, SomeBelow}
use Rattle.usage.specs.Pointers.{PointsAt}
use Rattle.usage.proofs.pointers.mark_instruments.Given as goal

abbrev pub invariant-loop-instrument : goal.invariant-loop-instrument
invariant-loop-instrument l = Adds (SomeBelow (PointsAt l.song l.name) l.instrument) l.initial.pointers l.pointers
