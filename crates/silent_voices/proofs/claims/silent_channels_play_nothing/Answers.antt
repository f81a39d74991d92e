use Rattle.silent_voices.proofs.Frames.{plays_nothing_lem}
use Rattle.silent_voices.proofs.claims.silent_channels_play_nothing.Goals as goal

pub returns : goal.returns
returns c = plays_nothing_lem
