use Rattle.std.proofs.Common.{ℕ, ◌<◌}
use Rattle.usage.specs.Marks.{IsMarked}
use Rattle.usage.proofs.checks.check_rows.Given as goal

abbrev pub invariant-loop-row : goal.invariant-loop-row
invariant-loop-row l = (q : ℕ) → l.stored < q → q < l.row → ¬ IsMarked l.reached q
