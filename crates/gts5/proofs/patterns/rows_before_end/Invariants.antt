use Rattle.std.proofs.Common.{◌≡◌, ◌-◌, ◌*◌, length}
use Rattle.gts5.specs.Reading.{cut_at, rows_of}
use Rattle.gts5.proofs.Loops.{with_rows}
use Rattle.gts5.proofs.patterns.rows_before_end.Given as goal

abbrev pub invariant-loop-i : goal.invariant-loop-i
invariant-loop-i l = record {
  size : length l.left ≡ 4 * (l.count - l.i);
  reading : with_rows l.rows.items (cut_at l.at l.i (rows_of (l.count - l.i) l.left))
      ≡ cut_at l.at 0 (rows_of l.count l.piece);
}
