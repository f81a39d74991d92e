-- The lemmas that upper crates may cite: songs go on as they are told to, one thing is told of each, and calls of one machine
-- end in one way.
pub use Rattle.song_length.proofs.Lasting.{measured_songs_go_on, few_are_told, plays_cost_little}
pub use Rattle.song_length.proofs.Once.{songs_are_told_once, songs_stop_once, songs_cost_once, never_both, fails_once}
pub use Rattle.song_length.proofs.Repeating.{repeating_songs_go_on, one_machine}
pub use Rattle.song_length.proofs.Placing.{begins_once}
pub use Rattle.song_length.proofs.Answering.{tells_once}
