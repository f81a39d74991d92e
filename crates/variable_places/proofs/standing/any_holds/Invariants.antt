-- None of the conditions so far holds.
use Rattle.std.proofs.Common.{◌≡◌, drop}
use Rattle.scope_lines.specs.Readings.{holds_in}
use Rattle.narrow_runs.specs.Named.{any_holds}
use Rattle.variable_places.proofs.standing.any_holds.Given as goal

abbrev pub invariant-loop-condition : goal.invariant-loop-condition
invariant-loop-condition l =
    any_holds (holds_in l.conditions.0) (drop l.condition-index l.asked) ≡ any_holds (holds_in l.conditions.0) l.asked
