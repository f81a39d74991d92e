use Rattle.play_model.proofs.PlayableSongs.{whole_lem}
use Rattle.play_model.proofs.claims.playable_songs_are_whole.Goals as goal

pub returns : goal.returns
returns c = whole_lem
