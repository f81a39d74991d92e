-- The door: what upper crates may cite.
pub mod Laws
-- Inner: pieces of a file, and the way from what is written to what is read and back.
mod Pieces
mod HeaderPieces
mod Taken
mod Written
