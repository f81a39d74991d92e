use Rattle.std.proofs.Common.{take, Any}
use Rattle.number_range.specs.Sets.{IsSetOf}
use Rattle.number_range.specs.Notes.{HasNote}
use Rattle.number_range.proofs.notes.rows_notes.Given as goal

abbrev pub invariant-loop-row : goal.invariant-loop-row
invariant-loop-row l = IsSetOf (λ n. Any (λ row. HasNote row n) (take l.row-index l.rows)) l.notes
