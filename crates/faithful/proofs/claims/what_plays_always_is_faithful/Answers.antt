use Rattle.faithful.proofs.Always.{always_is_faithful}
use Rattle.faithful.proofs.claims.what_plays_always_is_faithful.Goals as goal

pub returns : goal.returns
returns c = always_is_faithful
