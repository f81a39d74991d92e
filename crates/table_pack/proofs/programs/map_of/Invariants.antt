use Rattle.packing_rules.specs.Segments.{ProgramTable}
use Rattle.table_pack.specs.Programs.{AreSegments, AreEquals}
use Rattle.table_pack.proofs.Mapped.{MapSoFar}
use Rattle.table_pack.proofs.programs.map_of.Given as goal

abbrev pub invariant-loop-index : goal.invariant-loop-index
invariant-loop-index l =
    (table : ProgramTable) → AreSegments table l.rows l.marks l.firsts → AreEquals table l.equals →
    MapSoFar table l.index l.keep l.to
