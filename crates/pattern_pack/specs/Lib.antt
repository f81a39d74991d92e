-- Claimed: laws of packed patterns, and packed patterns worked out by hand.
pub mod PackedLaws
pub mod FaultLaws
pub mod NormalLaws
pub mod WorkedPatterns
-- Inner: how the answer of a call stands to what reading gives, and what is kept of the rows.
pub mod Answers
