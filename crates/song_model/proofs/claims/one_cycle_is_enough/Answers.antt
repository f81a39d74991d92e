use Rattle.song_model.proofs.Walks.{one_cycle_is_enough_lem}
use Rattle.song_model.proofs.claims.one_cycle_is_enough.Goals as goal

pub returns : goal.returns
returns c = one_cycle_is_enough_lem
