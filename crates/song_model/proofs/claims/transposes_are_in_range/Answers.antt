use Rattle.song_model.proofs.Plays.{transposes_in_range_lem}
use Rattle.song_model.proofs.claims.transposes_are_in_range.Goals as goal

pub returns : goal.returns
returns c = transposes_in_range_lem
