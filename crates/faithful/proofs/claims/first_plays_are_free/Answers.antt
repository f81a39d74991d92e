use Rattle.faithful.proofs.FreeCalls.{first_plays_are_free}
use Rattle.faithful.proofs.claims.first_plays_are_free.Goals as goal

pub returns : goal.returns
returns c = first_plays_are_free
