-- The labels in front are those so far that have a byte, and those in front among the rows that are left.
use Rattle.std.proofs.Common.{◌≡◌, ◌≤◌, ◌+◌, drop, map}
use Rattle.scope_lines.specs.Readings.{holds_in}
use Rattle.variable_places.specs.Places.{standing, position_in}
use Rattle.variable_places.proofs.standing.position_in.Given as goal

abbrev pub invariant-loop-row : goal.invariant-loop-row
invariant-loop-row l = record {
  so_far :
      l.count
      + position_in (standing (holds_in l.conditions.0) (map (λ row. (row.0, row.1.now)) (drop l.row-index l.rows)))
      l.label
      ≡ position_in (standing (holds_in l.conditions.0) (map (λ row. (row.0, row.1.now)) l.rows)) l.label;
  few : l.count ≤ l.row-index;
}
