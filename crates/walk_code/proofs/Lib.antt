-- What upper crates may cite.
pub mod Laws
-- The way to the next play, in the orderlist.
mod Ways
mod Repeats
mod Transposes
-- The walk along the orderlist, on the desk of a voice.
mod WalkGrounds
mod Walks
