-- A frame.
use Rattle.frame_code.proofs.claims.frames_play.Goals as goal
use Rattle.frame_code.proofs.Frames.{frames_play}

pub returns : goal.returns
returns c = frames_play
