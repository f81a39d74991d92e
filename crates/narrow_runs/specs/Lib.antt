-- To believe: which labels the kept lines of a block name.
pub mod Named
-- What is the same where a layout has no place for labels that no kept line names.
pub mod Narrow
-- Worked by hand.
pub mod WorkedNames
