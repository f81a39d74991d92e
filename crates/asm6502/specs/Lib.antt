-- to believe: listings and their bytes
pub mod Instructions
pub mod Branches
pub mod Operands
pub mod Lines
pub mod Assembly
pub mod Fixes
pub mod Faults
-- to believe: bytes at another origin, and lines that stand in a memory
pub mod Moving
pub mod Standing
-- claimed: bytes by part, stretches of a listing, and listings worked by hand
pub mod Parts
pub mod Stretches
pub mod WorkedListings
-- inner: what the two passes have at hand
pub mod Places
