-- The lemmas that upper crates may cite.

-- what the code does in memory
pub use Rattle.fetch_code.proofs.Stepping.{fetch_block_fetches}
-- where a voice is in its song stays with the bytes that say it
pub use Rattle.fetch_code.proofs.Songs.{song_stays}
