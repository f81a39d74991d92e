-- To believe: the text of numbers.
pub mod Texts
-- Claimed: what holds of it.
pub mod TextLaws
-- Worked by hand.
pub mod WorkedTexts
