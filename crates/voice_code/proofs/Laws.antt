-- The lemmas that upper crates may cite.

-- what the code does in memory
pub use Rattle.voice_code.proofs.Whole.{voice_block_plays, voice_block_rests}
-- lists stand in a later memory
pub use Rattle.voice_code.proofs.Lists.{ListsStay, listed_stays}
pub use Rattle.voice_code.proofs.SongLists.{orderlist_stays}
-- and so does where a voice is in its song
pub use Rattle.voice_code.proofs.SongLists.{in_song_stays}
-- and a voice's step is ready in a later memory too
pub use Rattle.voice_code.proofs.Readying.{voice_lists_stay, voice_stays_ready}
