use Rattle.std.proofs.Common.{ℕ, ◌<◌}
use Rattle.packing_rules.specs.Segments.{ProgramTable}
use Rattle.packing_rules.proofs.Laws.{SameAt}
use Rattle.table_pack.specs.Programs.{AreSegments}
use Rattle.table_pack.proofs.equal.are_equal.Given as goal

abbrev pub invariant-loop-d : goal.invariant-loop-d
invariant-loop-d l =
    (table : ProgramTable) → AreSegments table l.rows l.marks l.firsts → (e : ℕ) → e < l.d → SameAt table l.s l.t e
