use Rattle.std.proofs.Common.{◌≡◌, ◌≤◌, ◌<◌, ℕ, length}
use Rattle.packing_rules.specs.Segments.{ProgramTable, is_closed}
use Rattle.table_pack.specs.Marks.{is_marked}
use Rattle.table_pack.specs.Programs.{AreSegments}
use Rattle.table_pack.proofs.EqualRows.{EqualsSoFar}
use Rattle.table_pack.proofs.equal.first_equals.Given as goal

abbrev pub invariant-loop-index : goal.invariant-loop-index
invariant-loop-index l = record {
  few : length l.different.items ≤ l.index;
  so_far : (table : ProgramTable) → AreSegments table l.rows l.marks l.firsts →
      ((k : ℕ) → k < 256 → is_marked l.closed k ≡ is_closed table k) →
      EqualsSoFar table l.index l.equals l.different.items;
}
