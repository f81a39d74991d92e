use Rattle.std.proofs.Common.{ℕ, ◌<◌, ◌≤◌}
use Rattle.usage.specs.Marks.{IsMarked}
use Rattle.usage.proofs.uses.has_mark.Given as goal

abbrev pub invariant-loop-n : goal.invariant-loop-n
invariant-loop-n l = (k : ℕ) → l.from ≤ k → k < l.n → ¬ IsMarked l.marks k
