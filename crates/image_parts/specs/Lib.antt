-- To believe: whose each byte of the code is, and how many bytes an image takes.
pub mod CodeParts
pub mod Lengths
-- Claimed.
pub mod CodeLines
pub mod PartLaws
-- Worked by hand.
pub mod WorkedLengths
