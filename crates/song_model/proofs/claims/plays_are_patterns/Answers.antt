use Rattle.song_model.proofs.Plays.{plays_are_patterns_lem}
use Rattle.song_model.proofs.claims.plays_are_patterns.Goals as goal

pub returns : goal.returns
returns c = plays_are_patterns_lem
