-- The labels that have a byte are those so far that have one, and those of the rows that are left.
use Rattle.std.proofs.Common.{◌≡◌, ◌≤◌, ◌+◌, drop, map, length}
use Rattle.scope_lines.specs.Readings.{holds_in}
use Rattle.variable_places.specs.Places.{standing}
use Rattle.variable_places.proofs.standing.standing_count.Given as goal

abbrev pub invariant-loop-row : goal.invariant-loop-row
invariant-loop-row l = record {
  so_far :
      l.count + length (standing (holds_in l.conditions.0) (map (λ row. (row.0, row.1.now)) (drop l.row-index l.rows)))
      ≡ length (standing (holds_in l.conditions.0) (map (λ row. (row.0, row.1.now)) l.rows));
  few : l.count ≤ l.row-index;
}
