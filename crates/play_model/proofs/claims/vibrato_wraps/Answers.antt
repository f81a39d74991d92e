use Rattle.play_model.proofs.Computed.{vibrato_wraps_lem}
use Rattle.play_model.proofs.claims.vibrato_wraps.Goals as goal

pub returns : goal.returns
returns c = vibrato_wraps_lem
