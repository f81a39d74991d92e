-- Instructions where they stand.
mod Plain
mod Stepping
mod Timing
-- Lines and trees.
mod Sizing
mod Counting
mod Nearing
mod Ways
mod Meant
mod Whole
mod Weighing
-- Desks with the same in what is known.
mod Knowing
mod SameEffects
mod Growing
mod SameSteps
mod Isolating
mod SameCycles
-- Lines in a listing.
mod Homes
-- How the code reads lines.
mod Readings
mod Goings
-- Worked by hand.
mod WorkedSites
mod WorkedShapes
-- The door: what upper crates may cite.
pub mod Laws
