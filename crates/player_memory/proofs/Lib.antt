-- What upper crates may cite.
pub mod Laws
-- The bytes of a voice's state one by one.
mod Standing
-- What the variables begin with.
mod Starting
-- Variables that stand one behind the other.
mod Pieces
-- Which fields of instruments are read.
mod ReadFields
-- Worked by hand.
mod WorkedRooms
mod WorkedMemory
mod WorkedPlays
mod WorkedFetching
mod WorkedCommands
mod WorkedConditions
mod WorkedStarting
mod WorkedLists
-- Lists in a memory.
mod SetLists
mod WorkedHolds
