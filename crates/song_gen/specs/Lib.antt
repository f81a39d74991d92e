-- To believe: numbers that are drawn, and the song that is made of them.
pub mod Draws
pub mod GeneratedSong
-- Claimed: laws of generated songs, and draws of two of them by an independent reading.
pub mod GeneratedLaws
pub mod WorkedSongs
