use Rattle.table_pack.specs.Marks.{is_marked}
use Rattle.table_pack.proofs.Renumbered.{IsGathered}
use Rattle.table_pack.proofs.renumbering.renumber.Given as goal

abbrev pub invariant-loop-index : goal.invariant-loop-index
invariant-loop-index l = IsGathered (is_marked l.marks) l.table l.index l.rows.items l.to
