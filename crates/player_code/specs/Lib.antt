-- To believe: the lines of the code.
pub mod CodeLines
-- What an image is made from, and where its entrances stand.
pub mod Plans
-- Claimed: it assembles, and is well entered.
pub mod CodeLaws
-- Worked by hand.
pub mod WorkedCode
