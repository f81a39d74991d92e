-- The door: what upper crates may cite.
pub mod Laws
-- Marks that are added, and the order of refusals.
mod AddedMarks
mod Ranks
-- What is found: bytes, rows, pointers, programs.
mod PlayedBytes
mod UsedRows
mod TablePointers
mod Following
mod TableRows
mod FoundPrograms
mod KeptParts
-- The first rule that is broken.
mod OrderRules
mod Refusals
-- Features and facts.
mod FeatureMarks
mod FactMarks
mod HeardChannels
mod SetBits
-- Features name each case of a frame.
mod Cases
-- What is said of used parts is the song's own.
mod OneParts
