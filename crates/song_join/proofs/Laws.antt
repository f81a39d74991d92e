-- The lemmas that upper crates may cite.

-- the joined song keeps the limits, can be played, and plays both songs
pub use Rattle.song_join.proofs.Whole.{joined_songs_are_whole_lem, whole_join}
-- two songs are refused for one reason, and not where they can be joined
pub use Rattle.song_join.proofs.OneRefusal.{one_reason, none_refused}
