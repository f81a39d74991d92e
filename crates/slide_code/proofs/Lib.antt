-- What upper crates may cite.
pub mod Laws
-- Numbers, and the rule case by case.
mod Words
mod Distances
mod Rules
mod Commands
mod Kept
-- What the code stands on, and what it leaves, from its end back.
mod SlideGrounds
mod Moves
mod Tones
mod Swings
mod Speeds
mod Calculated
mod Slides
-- The code in memory.
mod Stepping
mod WorkedSlides
