-- Things that are drawn one after the other.
mod Loops
-- The limits of what is drawn.
mod Limits
-- Generated songs can be played, and packed.
mod Playable
mod Small
-- What upper crates may cite.
pub mod Laws
-- Draws of two songs.
mod WorkedSongs
