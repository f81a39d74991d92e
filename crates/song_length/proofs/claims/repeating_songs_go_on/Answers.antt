use Rattle.song_length.proofs.Repeating.{repeating_songs_go_on}
use Rattle.song_length.proofs.claims.repeating_songs_go_on.Goals as goal

pub returns : goal.returns
returns c = repeating_songs_go_on
