-- Where entrances that are worked by hand write.
use Rattle.scope_calls.proofs.claims.worked_places.Goals as goal
use Rattle.scope_calls.proofs.WorkedEntrances.{volume_stores_there, voices_store_there, volume_is_apart}
use Rattle.scope_calls.proofs.WorkedEntrances.{register_is_not_apart, listings_agree, voices_are_blocks}

pub returns-clause-volume : goal.returns-clause-volume
returns-clause-volume c = volume_stores_there

pub returns-clause-voices : goal.returns-clause-voices
returns-clause-voices c = voices_store_there

pub returns-clause-apart : goal.returns-clause-apart
returns-clause-apart c = volume_is_apart

pub returns-clause-register : goal.returns-clause-register
returns-clause-register c = register_is_not_apart

pub returns-clause-listings : goal.returns-clause-listings
returns-clause-listings c = listings_agree

pub returns-clause-blocks : goal.returns-clause-blocks
returns-clause-blocks c = voices_are_blocks
