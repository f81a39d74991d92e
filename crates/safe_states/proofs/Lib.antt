-- The door: the lemmas that upper crates may cite.
pub mod Laws
-- Where pointers lead, and the rules: each keeps a voice and what the voices share safe.
pub mod Pointers
pub mod Programs
pub mod Fetched
pub mod Commands
pub mod Ticks
pub mod Waves
-- Steps of voices, frames and starts.
pub mod Steps
-- What a voice does in its turn stands in the song, and so what a frame uses is a feature.
pub mod Running
pub mod Turns
pub mod Frames
-- What frames of small songs use, and what they don't.
pub mod WorkedTurns
pub mod WorkedCases
pub mod WorkedStates
