-- To believe: the two songs in one, and why two songs can't be joined.
pub mod Numbers
pub mod Joined
pub mod Limits
pub mod Loose
pub mod Openings
pub mod Refusals
-- Claimed: the joined song plays what both songs play, and can be played.
pub mod JoinLaws
-- Inner: what the code says of its parts.
pub mod Parts
-- Claimed: two small songs in one, and why others can't be joined, worked out by hand.
pub mod WorkedJoins
pub mod WorkedRefusals
pub mod WorkedWhole
pub mod WorkedJoinable
