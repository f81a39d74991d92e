-- To believe: the code of the filter step.
pub mod FilterBlock
-- Worked by hand.
pub mod WorkedFilters
