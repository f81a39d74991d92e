-- The door: what upper crates may cite.
pub mod Laws
-- Inner: ranges, and what is kept of rows that are read.
mod InRange
mod Kept
-- Inner: bytes are read as they are spelled, and spelled as they are read.
mod Readings
mod Spellings
mod Walks
mod Whole
mod FirstFaults
-- Inner: what is packed is the normal rows, in as few bytes as can spell them.
mod Packings
mod Shortest
-- Inner: what a frame does with normal rows.
mod NormalRows
-- Inner: the laws.
mod PatternLaws
