use Rattle.play_model.proofs.Computed.{funk_tempo_wraps_lem}
use Rattle.play_model.proofs.claims.funk_tempo_wraps.Goals as goal

pub returns : goal.returns
returns c = funk_tempo_wraps_lem
