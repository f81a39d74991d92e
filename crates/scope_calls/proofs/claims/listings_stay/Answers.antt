-- What a call leaves.
use Rattle.scope_calls.proofs.claims.listings_stay.Goals as goal
use Rattle.scope_calls.proofs.Staying.{others_stay, listings_stay, code_stays, code_is_shared}

pub returns-clause-others : goal.returns-clause-others
returns-clause-others c = others_stay

pub returns-clause-listing : goal.returns-clause-listing
returns-clause-listing c = listings_stay

pub returns-clause-code : goal.returns-clause-code
returns-clause-code c = code_stays

pub returns-clause-shared : goal.returns-clause-shared
returns-clause-shared c = code_is_shared
