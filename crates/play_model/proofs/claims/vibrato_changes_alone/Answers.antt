use Rattle.play_model.proofs.Computed.{vibrato_changes_alone_lem}
use Rattle.play_model.proofs.claims.vibrato_changes_alone.Goals as goal

pub returns : goal.returns
returns c = vibrato_changes_alone_lem
