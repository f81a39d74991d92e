-- What upper crates may cite.
pub mod Laws
-- The lists as the steps read them.
mod Lists
mod Speeds
-- A voice at its turn: its state, and the rows that it is on.
mod Turns
mod Programs
mod LookedUp
mod Orders
mod Patterns
-- The lines of facts are kept.
mod FactsKept
-- The steps are ready.
mod Ticks
mod Moves
mod Waves
mod Effects
mod Pulses
-- Voices that aren't run.
mod Stills
-- All of them.
mod Frames
mod Reached
-- What is no scene.
mod WorkedScenes
