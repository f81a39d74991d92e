use Rattle.packing_rules.specs.Segments.{ProgramTable}
use Rattle.table_pack.specs.Programs.{IsTableOf}
use Rattle.table_pack.proofs.FirstRows.{IsWalked}
use Rattle.table_pack.proofs.segments.first_rows.Given as goal

abbrev pub invariant-loop-index : goal.invariant-loop-index
invariant-loop-index l =
    (table : ProgramTable) → IsTableOf table l.rows l.marks l.pulse → IsWalked table l.index l.firsts l.first l.goes_on
