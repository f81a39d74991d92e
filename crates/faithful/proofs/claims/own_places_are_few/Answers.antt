use Rattle.faithful.proofs.Always.{own_places_are_few}
use Rattle.faithful.proofs.claims.own_places_are_few.Goals as goal

pub returns : goal.returns
returns c = own_places_are_few
