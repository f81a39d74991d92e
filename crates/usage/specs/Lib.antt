-- To believe: what the marks of used parts say.
pub mod Marks
pub mod Parts
pub mod Cases
pub mod Channels
-- Claimed: a law of these.
pub mod PartLaws
-- Inner: what the parts of `usage` promise each other.
pub mod Building
pub mod Played
pub mod Search
pub mod Rows
pub mod Pointers
pub mod Programs
pub mod Waves
pub mod Checks
pub mod Found
pub mod FeatureParts
