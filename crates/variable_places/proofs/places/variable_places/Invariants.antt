-- The labels so far have their places.
use Rattle.std.proofs.Common.{◌≡◌, ℕ, ◌<◌, length, slice_index}
use Rattle.scope_lines.specs.Readings.{holds_in}
use Rattle.variable_places.specs.Places.{place_of}
use Rattle.variable_places.proofs.places.variable_places.Given as goal

abbrev pub invariant-loop-label : goal.invariant-loop-label
invariant-loop-label l = record {
  so_far : (label : ℕ) → label < l.label → slice_index l.places label ≡ place_of (holds_in l.conditions.0) label;
  all : length l.places ≡ 113;
}
