-- To believe: the rules of the numbers.
pub mod Rules
pub mod EntranceRules
pub mod Faults
-- Claimed: what admitted numbers say.
pub mod Bounds
pub mod Least
pub mod Spans
-- Worked: numbers of small blocks.
pub mod WorkedRules
-- Of what the code has.
pub mod Lines
pub mod Private
