-- To believe: what is said of each part of a song, in which words, and the text that it makes.
pub mod Statements
pub mod Words
pub mod Parts
pub mod Shown
-- Claimed: the text makes the song; and texts of songs that were worked out by hand.
pub mod ScriptLaws
pub mod WorkedScripts
