use Rattle.silent_voices.proofs.Frames.{mute_states_lem}
use Rattle.silent_voices.proofs.claims.silent_states_stay_mute.Goals as goal

pub returns : goal.returns
returns c = mute_states_lem
