use Rattle.play_model.proofs.Computed.{low_note_is_mute_lem}
use Rattle.play_model.proofs.claims.low_note_is_mute.Goals as goal

pub returns : goal.returns
returns c = low_note_is_mute_lem
