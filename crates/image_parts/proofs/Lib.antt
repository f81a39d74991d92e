-- What upper crates may cite.
pub mod Laws
-- Sums over the parts, and the bytes of the code's blocks.
mod Counts
mod Sums
mod Around
mod Bounds
-- What is read of a packed song.
mod ReadBytes
-- What each image has.
mod Settled
mod Rest
mod WorkedLengths
