-- The lemmas that upper crates may cite.

-- a frame, as a call of its entrance
pub use Rattle.frame_code.proofs.Frames.{frames_play}
-- of the start memory holds the start
pub use Rattle.frame_code.proofs.Turns.{held_start}
-- a memory that is the same where the code may read holds the same lists, and the same state
pub use Rattle.frame_code.proofs.Moving.{lists_where_read, holds_where_read}
-- the beginning of a subtune, as a call of its entrance
pub use Rattle.frame_code.proofs.Beginning.{beginnings_start, begun_holds, lists_at}
