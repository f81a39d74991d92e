-- To believe: whose each byte of a block is.
pub mod Parts
-- Claimed.
pub mod PartLaws
-- Worked by hand.
pub mod WorkedParts
