use Rattle.std.proofs.Common.{ℕ, ◌<◌}
use Rattle.usage.specs.Marks.{IsMarked}
use Rattle.song_join.proofs.loose.first_above.Given as goal

abbrev pub invariant-loop-n : goal.invariant-loop-n
invariant-loop-n l = (k : ℕ) → l.stored < k → k < l.n → ¬ IsMarked l.marks k
