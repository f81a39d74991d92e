-- Its labels are in place.
use Rattle.player_code.proofs.claims.labels_stand_in_place.Goals as goal
use Rattle.player_code.proofs.Whole.{entrances_are_in_one_listing}
use Rattle.player_code.proofs.Whole.{labels_stand_in_place}

pub returns-clause-listing : goal.returns-clause-listing
returns-clause-listing c = entrances_are_in_one_listing

pub returns-clause-place : goal.returns-clause-place
returns-clause-place c = labels_stand_in_place
