use Rattle.play_model.proofs.Computed.{filter_follows_lem}
use Rattle.play_model.proofs.claims.filter_follows.Goals as goal

pub returns : goal.returns
returns c = filter_follows_lem
