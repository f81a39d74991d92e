use Rattle.usage.specs.Building.{Adds, SomeBelow}
use Rattle.usage.specs.Checks.{IsTargetOf}
use Rattle.usage.proofs.checks.named_rows.Given as goal

abbrev pub invariant-loop-p : goal.invariant-loop-p
invariant-loop-p l = Adds (SomeBelow (IsTargetOf l.song l.name) l.p) l.initial.named l.named
