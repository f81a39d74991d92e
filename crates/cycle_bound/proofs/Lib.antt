-- What upper crates may cite.
pub mod Laws
-- Trees and entrances keep their bounds.
pub mod Bounds
pub mod EntranceBounds
-- The least numbers.
pub mod Leasts
-- Worked by hand.
pub mod WorkedRules
-- Numbers that are pushed.
pub mod Pushing
-- Where the least numbers have room.
pub mod Fits
-- Where numbers are too small.
pub mod Shorts
-- How great they can be.
pub mod Spans
-- Turns of open loops.
pub mod Turns
