use Rattle.variable_places.proofs.WorkedPlaces.{fields_are_worked, bytes_are_worked, counts_are_worked}
use Rattle.variable_places.proofs.WorkedPlaces.{places_are_worked}
use Rattle.variable_places.proofs.claims.worked_places.Goals as goal

pub returns-clause-fields : goal.returns-clause-fields
returns-clause-fields c = fields_are_worked

pub returns-clause-bytes : goal.returns-clause-bytes
returns-clause-bytes c = bytes_are_worked

pub returns-clause-counts : goal.returns-clause-counts
returns-clause-counts c = counts_are_worked

pub returns-clause-places : goal.returns-clause-places
returns-clause-places c = places_are_worked
