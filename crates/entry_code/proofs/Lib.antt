-- What upper crates may cite.
pub mod Laws
-- A packed entry, byte by byte, the desk of a voice that takes it, and the gate before a note.
mod Texts
mod Takes
mod LastBytes
mod Readings
mod Begins
mod Ends
mod Gates
-- Where the voice is behind it.
mod Moves
