use Rattle.silent_voices.proofs.Frames.{silent_turn_lem}
use Rattle.silent_voices.proofs.claims.silent_turns_are_left.Goals as goal

pub returns : goal.returns
returns c = silent_turn_lem
