-- Where labels stand that kept lines name.
mod Standing
-- What an instruction does in three layouts.
mod Instructions
-- Runs of trees, and of entrances.
mod Lines
mod Trees
mod Entrances
-- Worked by hand.
mod WorkedNames
-- The door: what upper crates may cite.
pub mod Laws
