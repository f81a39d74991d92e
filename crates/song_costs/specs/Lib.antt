-- To believe: bytes by kind, and the parts that are kept.
pub mod Kinds
pub mod Kept
-- Claimed: laws of these.
pub mod CostLaws
pub mod Names
-- Worked by hand.
pub mod WorkedCosts
