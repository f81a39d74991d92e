-- Images keep their bounds.
mod Kept
-- The least numbers have room.
mod Fits
-- What is told of both.
mod Checks
-- Numbers have one answer.
mod OneAnswer
-- Packed songs with the same program, and systems with the same numbers.
mod SamePrograms
mod Systems
-- Citable from other crates.
pub mod Laws
