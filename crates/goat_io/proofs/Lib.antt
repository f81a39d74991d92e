-- The door: what upper crates may cite.
pub mod Laws
-- Inner: a map of texts to bytes, pieces that are taken, and files that are put in.
mod Texts
mod Pieces
mod FileLaws
