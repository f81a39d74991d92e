-- Computed by the checker.
mod Facts
-- The door: what upper crates may cite.
pub mod Laws
