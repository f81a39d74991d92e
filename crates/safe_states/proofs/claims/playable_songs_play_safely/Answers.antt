use Rattle.safe_states.proofs.Frames.{plays_safely_lem}
use Rattle.safe_states.proofs.claims.playable_songs_play_safely.Goals as goal

pub returns : goal.returns
returns c = plays_safely_lem
