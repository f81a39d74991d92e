-- claimed: what upper crates may cite
pub mod Laws
-- inner: instructions and their bytes, branches
pub mod Rounds
pub mod Reaches
-- inner: the passes over a listing, and what they refuse
pub mod Firsts
pub mod Found
pub mod Naming
pub mod Tables
pub mod Sound
pub mod Writing
-- inner: numbers at their places, here and at another origin
pub mod Numbers
pub mod Shifts
-- inner: lines that stand, the whole listing, and a stretch of it
pub mod Standing
pub mod Whole
pub mod Parts
pub mod Stretches
pub mod Home
