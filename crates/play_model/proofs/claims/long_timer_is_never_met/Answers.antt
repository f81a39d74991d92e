use Rattle.play_model.proofs.Computed.{long_timer_is_never_met_lem}
use Rattle.play_model.proofs.claims.long_timer_is_never_met.Goals as goal

pub returns : goal.returns
returns c = long_timer_is_never_met_lem
