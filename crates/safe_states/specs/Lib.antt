-- Claimed: what a playable song keeps from frame to frame, and that no frame does what its features don't name.
pub mod SafeLaws
-- Claimed: what frames of small songs use, worked out by hand.
pub mod WorkedCases
-- Claimed: what a voice keeps, at the edges of its ranges.
pub mod WorkedStates
