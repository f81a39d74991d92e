use Rattle.std.proofs.Common.{◌≡◌, ◌++◌, drop, length}
use Rattle.gts5.specs.Reading.{table_rows}
use Rattle.gts5.proofs.tables.joined_sides.Given as goal

abbrev pub invariant-loop-i : goal.invariant-loop-i
invariant-loop-i l = record {
  number : length l.rows ≡ l.i;
  reading : l.rows ++ table_rows (drop l.i l.lefts) (drop l.i l.rights) ≡ table_rows l.lefts l.rights;
}
