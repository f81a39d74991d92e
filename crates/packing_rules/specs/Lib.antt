-- To believe: which programs are stored once, which maps of rows keep programs, what a song uses, the new numbers, and
-- the sizes of a song.
pub mod Segments
pub mod ProgramMaps
pub mod UsedSets
pub mod Renumbering
pub mod SongSizes
-- Claimed: laws of these, and sizes, programs and new numbers worked out by hand.
pub mod ProgramLaws
pub mod SizeLaws
pub mod WorkedSizes
pub mod WorkedPrograms
pub mod WorkedNumbers
