-- The lemmas that upper crates may cite.

-- generated songs keep the limits of the format
pub use Rattle.song_gen.proofs.Limits.{generated_songs_keep_limits}
