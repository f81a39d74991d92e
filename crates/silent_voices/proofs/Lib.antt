-- The door: the lemmas that upper crates may cite.
pub mod Laws
-- A mute voice, and the rules: each leaves it mute.
pub mod Muting
pub mod Rows
-- Steps of voices, frames and starts.
pub mod Frames
-- Small songs.
pub mod WorkedSilent
