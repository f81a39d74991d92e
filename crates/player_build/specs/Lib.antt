-- To believe: when an image has room, whose each of its bytes is, and what `build` answers.
pub mod Room
pub mod Spans
pub mod Built
-- Inner: spans without a gap.
pub mod Joined
-- Worked by hand.
pub mod WorkedRoom
pub mod WorkedSpans
