-- What upper crates may cite.
pub mod Laws
-- The entrances, as the code has them.
mod Entrances
-- Labels: which are named, and where they are.
mod Naming
mod Places
mod Variables
mod CodeNames
mod Addresses
-- Lines: what they use, that they are kept, and how many bytes they take.
mod Homes
mod Fits
mod Sizes
mod CodeSizes
mod CodeCounts
-- An image.
mod Whole
mod Stands
mod WorkedCode
