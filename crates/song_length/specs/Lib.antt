-- To believe: plays, songs whose state comes again, and what is told of a song.
pub mod Plays
pub mod Repeats
pub mod Measured
pub mod Told
pub mod Laws
-- Worked examples, and what is refused.
pub mod WorkedSongs
-- Inner: one play more.
pub mod Counts
-- Inner: a song as it is played.
pub mod Coming
