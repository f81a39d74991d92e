use Rattle.std.proofs.Common.{◌≡◌, ℕ, false, take}
use Rattle.std.specs.Prelude.{All}
use Rattle.packing_rules.specs.Segments.{ProgramTable, are_equal}
use Rattle.table_pack.specs.Programs.{AreSegments}
use Rattle.table_pack.proofs.equal.equal_among.Given as goal

abbrev pub invariant-loop-t : goal.invariant-loop-t
invariant-loop-t l =
    (table : ProgramTable) → AreSegments table l.rows l.marks l.firsts →
    All (λ (t : ℕ). are_equal table l.s t ≡ false) (take l.t-index l.among)
