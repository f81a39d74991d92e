-- What upper crates may cite.
pub mod Laws
mod Frequencies
mod Returned
-- The code in memory.
mod Setting
mod Giving
-- Worked by hand.
mod WorkedPitches
mod WorkedVoices
