use Rattle.song_join.proofs.Whole.{joined_songs_are_whole_lem}
use Rattle.song_join.proofs.claims.joined_songs_are_whole.Goals as goal

pub returns : goal.returns
returns c = joined_songs_are_whole_lem
