-- The door: the lemmas that upper crates may cite.
pub mod Laws
-- Ranges, and that a song has one.
pub mod Ranges
-- The numbers of small songs, and their ranges.
pub mod Made
pub mod Tunes
pub mod WorkedNotes
pub mod WorkedWaves
pub mod WorkedNumbers
pub mod WorkedRanges
