-- The lemmas that upper crates may cite.

-- a step is never refused for want of memory, and an edit that isn't refused for another reason can be done
pub use Rattle.edit_history.proofs.ReachedLaws.{edit_never, unrefused_is_done}
-- the histories that steps lead to from a song: they begin with it, and have a song
pub use Rattle.edit_history.proofs.ReachedLaws.{IsReached, begun_reached, reached_has_song, edit_reached, undo_reached}
pub use Rattle.edit_history.proofs.ReachedLaws.{redo_reached}
