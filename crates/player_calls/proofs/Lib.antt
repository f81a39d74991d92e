-- What upper crates may cite.
pub mod Laws
-- Where calls write.
mod Places
-- Layouts in which each variable has a byte, and a state that a memory holds with spare bytes.
mod Wide
mod WorkedWide
mod Spared
-- A play, and an init.
mod Plays
mod Begins
-- The image as it is loaded, and any calls of it.
mod Loaded
mod Histories
mod Served
mod Isolated
mod Quick
