use Rattle.kept_notes.proofs.Frames.{plays_its_notes_lem}
use Rattle.kept_notes.proofs.claims.playable_songs_play_their_notes.Goals as goal

pub returns : goal.returns
returns c = plays_its_notes_lem
