-- What upper crates may cite of the proofs of this crate.

-- players play, by their image's bytes alone, in at most so many cycles, and hold the start as they are built; a packed song that stands for a song
-- has a subtune
pub use Rattle.player_calls.proofs.Served.{players_play}
pub use Rattle.player_calls.proofs.Isolated.{players_are_isolated}
pub use Rattle.player_calls.proofs.Quick.{players_keep_bounds}
pub use Rattle.player_calls.proofs.Loaded.{players_hold_the_start, songs_have_subtunes}
-- labels that have a byte, and others, in the wide layouts of a plan
pub use Rattle.player_calls.proofs.Wide.{InSpare, in_spare, spare_is, no_spare, wide_at}
