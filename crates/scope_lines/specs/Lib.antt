-- To believe: the lines of a tree, which trees have them, and what the theorem on lowered blocks asks and says.
pub mod Instructions
pub mod Sizes
pub mod Lines
pub mod Reach
pub mod Lowered
-- To believe: which registers are known where a tree comes to.
pub mod Known
-- Claimed: what a block rests on, how many cycles it takes, how much it weighs, and that no line of it is refused.
pub mod Isolation
pub mod Cycles
pub mod Weights
pub mod Homes
-- Worked: sites and trees that are worked by hand.
pub mod WorkedSites
pub mod WorkedShapes
-- Inner: how the code reads lines, and what is around them.
pub mod Readings
pub mod Ends
