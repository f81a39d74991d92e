-- To believe: labels in front of bytes; the bytes of the lists, and where their labels are.
pub mod Marks
pub mod DataLists
-- Claimed: what the lines of the lists are, and that the lists stand where they do.
pub mod ListLaws
-- Claimed: worked by hand.
pub mod WorkedLists
pub mod WorkedLayouts
