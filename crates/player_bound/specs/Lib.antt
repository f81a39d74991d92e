-- To believe: an image's program, and what is told of numbers.
pub mod Programs
pub mod Answers
-- Claimed: what admitted numbers say.
pub mod BoundLaws
