-- What upper crates may cite.
pub mod Laws
mod Written
-- The code in memory.
mod Sounding
-- Worked by hand.
mod WorkedRegisters
