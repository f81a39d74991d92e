use Rattle.usage.specs.Building.{Adds, SomeBelow}
use Rattle.usage.specs.Pointers.{IsParameterAt}
use Rattle.usage.proofs.pointers.mark_parameters.Given as goal

abbrev pub invariant-loop-parameter : goal.invariant-loop-parameter
invariant-loop-parameter l = Adds (SomeBelow (IsParameterAt l.parameters) l.parameter) l.initial.pointers l.pointers
