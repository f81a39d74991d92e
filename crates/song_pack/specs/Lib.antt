-- To believe: the packed song of a song, part by part, and what packing a song answers.
pub mod Packed
pub mod Answers
-- Claimed: all that a frame of a complete song looks up is stored; and the size of a packed song.
pub mod StoredLaws
pub mod SizeLaws
-- Inner: new numbers as lists, and what is made of a song's tables and patterns.
pub mod Numbers
pub mod Programs
pub mod Tables
pub mod Texts
