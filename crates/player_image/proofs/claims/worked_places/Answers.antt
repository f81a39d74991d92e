-- Bytes and places of an image.
use Rattle.player_image.proofs.claims.worked_places.Goals as goal
use Rattle.player_image.proofs.WorkedImages.{bytes_are_placed, patterns_are_denied, places_are_worked}

pub returns-clause-bytes : goal.returns-clause-bytes
returns-clause-bytes c = bytes_are_placed

pub returns-clause-patterns : goal.returns-clause-patterns
returns-clause-patterns c = patterns_are_denied

pub returns-clause-places : goal.returns-clause-places
returns-clause-places c = places_are_worked
