-- Lines of numbers.
mod Lines
-- A text is read in one way.
mod OneReading
-- Citable from other crates.
pub mod Laws
-- Worked by hand.
mod WorkedTexts
