-- What upper crates may cite.
pub mod Laws
-- How many parts a tree has, and which.
mod Counted
mod There
