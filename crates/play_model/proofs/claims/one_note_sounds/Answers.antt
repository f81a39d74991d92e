use Rattle.play_model.proofs.Computed.{one_note_sounds_lem}
use Rattle.play_model.proofs.claims.one_note_sounds.Goals as goal

pub returns : goal.returns
returns c = one_note_sounds_lem
