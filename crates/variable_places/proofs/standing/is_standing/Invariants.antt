-- The row of the label is none of those so far.
use Rattle.std.proofs.Common.{◌≡◌, drop, map}
use Rattle.variable_places.specs.Places.{asked_in}
use Rattle.variable_places.proofs.standing.is_standing.Given as goal

abbrev pub invariant-loop-row : goal.invariant-loop-row
invariant-loop-row l =
    asked_in (map (λ row. (row.0, row.1.now)) (drop l.row-index l.rows)) l.label
    ≡ asked_in (map (λ row. (row.0, row.1.now)) l.rows) l.label
