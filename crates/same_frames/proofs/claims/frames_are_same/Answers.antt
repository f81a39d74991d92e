use Rattle.same_frames.proofs.Frames.{frames_same_lem}
use Rattle.same_frames.proofs.claims.frames_are_same.Goals as goal

pub returns : goal.returns
returns c = frames_same_lem
