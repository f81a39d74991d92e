-- The lemmas that upper crates may cite.

-- a player before its first frame, and a frame more
pub use Rattle.playroutine.proofs.Traces.{start_after, NextCall, frame_after, players_give_the_trace_lem}
