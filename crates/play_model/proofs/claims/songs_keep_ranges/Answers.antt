use Rattle.play_model.proofs.RangesOfFrames.{song_ranges_lem}
use Rattle.play_model.proofs.claims.songs_keep_ranges.Goals as goal

pub returns : goal.returns
returns c = song_ranges_lem
