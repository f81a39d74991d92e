use Rattle.faithful.proofs.WorkedPlaces.{places_are_worked}
use Rattle.faithful.proofs.claims.worked_places.Goals as goal

pub returns-clause-places : goal.returns-clause-places
returns-clause-places c = places_are_worked
