-- The door: what upper crates may cite.
pub mod Laws
-- Inner: what a song under new numbers uses, that it is complete, and that it has no other facts and asks for no other
-- numbers.
mod UsedParts
mod Complete
mod CoveredFacts
mod CoveredNumbers
-- Inner: each part of a packed song agrees with its song.
mod StoredTables
mod StoredInstruments
mod StoredPatterns
mod PlayedOrders
mod Ranges
mod Stands
mod Sizes
mod PackedTables
mod FilledLists
mod GatheredPatterns
mod MadeTables
mod MadeSongs
mod HandedOn
mod Answered
mod FoundRows
mod FoundPlaces
-- A size that is worked by hand.
mod WorkedSizes
