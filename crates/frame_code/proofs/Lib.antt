-- What upper crates may cite.
pub mod Laws
-- What parts of a frame leave.
mod Leaving
mod Holding
mod Moving
mod Turns
mod Behind
-- A frame.
mod Calls
mod Sounding
mod Frames
-- A beginning.
mod Beginning
