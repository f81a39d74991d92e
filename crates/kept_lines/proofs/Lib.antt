-- What upper crates may cite.
pub mod Laws
-- The bits of a sum, and what follows for the set of the conditions that hold.
mod Sums
mod Sets
mod WorkedKept
