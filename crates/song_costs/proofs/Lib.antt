-- The door: what upper crates may cite.
pub mod Laws
-- Bytes.
mod ByteKinds
mod ToldSums
mod Sums
mod KeptParts
mod KeptLists
-- Worked by hand.
mod WorkedCosts
mod WorkedSubtunes
