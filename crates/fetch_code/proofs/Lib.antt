-- What upper crates may cite.
pub mod Laws
-- A rest of an entry that is being played.
mod Rests
-- What the code leaves, and where it goes.
mod Outcomes
mod Taken
mod Reaching
mod Fetches
-- A play begins behind the walk along the orderlist.
mod Begun
-- The law on the desk of a voice.
mod Leading
-- The code in memory.
mod Grounds
mod Stepping
-- The same place in the song.
mod Songs
