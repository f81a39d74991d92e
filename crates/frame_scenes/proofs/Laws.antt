-- The lemmas that upper crates may cite.

-- a frame is ready, and each of a packed subtune from its start on
pub use Rattle.frame_scenes.proofs.Frames.{frames_are_ready}
pub use Rattle.frame_scenes.proofs.Reached.{packed_scene, packed_frames_are_ready}
-- the longest walk along an orderlist of a packed song is a byte
pub use Rattle.frame_scenes.proofs.Orders.{walk_is_byte}
