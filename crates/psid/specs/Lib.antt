-- To believe: how numbers are spelled, the table of a file, and the six rules of reading.
pub mod Words
pub mod Format
pub mod Reading
-- Claimed: what holds of them, and a file worked out by hand.
pub mod FormatLaws
pub mod WorkedFile
