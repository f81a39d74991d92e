-- What upper crates may cite.
pub mod Laws
mod FilterRows
mod Filters
-- The code in memory.
mod Stepping
-- What is worked by hand.
mod WorkedFilters
