-- The place is that of what is left of the number among those from here on.
use Rattle.std.proofs.Common.{◌≡◌, get_or}
use Rattle.variable_places.specs.Places.{free_place}
use Rattle.variable_places.proofs.FreePlaces.{free_from}
use Rattle.variable_places.proofs.places.free_place.Given as goal

abbrev pub invariant-loop-place : goal.invariant-loop-place
invariant-loop-place l = get_or (free_from l.fields l.place) l.left 0 ≡ free_place l.fields l.number
