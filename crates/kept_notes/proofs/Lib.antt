-- The door: the lemmas that upper crates may cite.
pub mod Laws
-- The transpose of a play.
pub mod Transposes
-- What a voice keeps, and the rules: each keeps it.
pub mod Keeping
pub mod Ticks
pub mod Waves
pub mod Rows
-- The timer at a fetch.
pub mod Timers
-- What is looked up.
pub mod Asked
-- Steps of voices, frames and starts.
pub mod Frames
-- Voices of small songs.
pub mod WorkedVoices
