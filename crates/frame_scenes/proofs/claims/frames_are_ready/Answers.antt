-- A frame of a packed song is ready.
use Rattle.frame_scenes.proofs.claims.frames_are_ready.Goals as goal
use Rattle.frame_scenes.proofs.Frames.{frames_are_ready}
use Rattle.frame_scenes.proofs.Reached.{packed_frames_are_ready}

pub returns-clause-ready : goal.returns-clause-ready
returns-clause-ready c = frames_are_ready

pub returns-clause-packed : goal.returns-clause-packed
returns-clause-packed c = packed_frames_are_ready
