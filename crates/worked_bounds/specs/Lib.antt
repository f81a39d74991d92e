-- Claimed: what is told of numbers, and which images keep within bounds, worked by hand.
pub mod WorkedAnswers
pub mod WorkedBounds
