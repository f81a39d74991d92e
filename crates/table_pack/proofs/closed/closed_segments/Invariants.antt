use Rattle.std.proofs.Common.{ℕ, ◌<◌, ◌≡◌}
use Rattle.std.specs.List.{list_all}
use Rattle.packing_rules.specs.Segments.{ProgramTable, numbers, is_closed_at}
use Rattle.table_pack.specs.Marks.{is_marked}
use Rattle.table_pack.specs.Programs.{AreSegments, AreEntries}
use Rattle.table_pack.proofs.closed.closed_segments.Given as goal

abbrev pub invariant-loop-index : goal.invariant-loop-index
invariant-loop-index l =
    (table : ProgramTable) (s : ℕ) → AreSegments table l.rows l.marks l.firsts → AreEntries table l.entries → s < 256 →
    is_marked l.closed s ≡ list_all (is_closed_at table s) (numbers l.index)
