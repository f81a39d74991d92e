-- The door: what upper crates may cite.
pub mod Laws
-- Inner: maps of rows, and segments.
mod Numbers
mod ProgramMaps
mod Segments
mod EqualSegments
mod StandIns
mod PlayablePrograms
mod NewPointers
-- Inner: lists without their equal items.
mod FirstSeen
mod FirstPlaces
-- Inner: the order of the instruments.
mod InstrumentOrder
-- Inner: sizes, programs and new numbers that were worked out by hand.
mod WorkedSizes
mod WorkedNumbers
mod CrowdedSets
mod CrowdedSong
mod SizesOfSongs
