-- To believe: the limits of a song, how it is spelled, what it has under a number, and what its orderlists play.
pub mod Basics
pub mod PatternLimits
pub mod OrderLimits
pub mod Limits
pub mod Canonical
pub mod LookUp
pub mod Walk
pub mod Endless
pub mod Places
pub mod Pointers
pub mod Feature
pub mod Silence
pub mod Silent
-- Claimed: laws of these definitions, and what they give for orderlists that were worked out by hand.
pub mod WalkLaws
pub mod CanonicalLaws
pub mod WorkedWalks
pub mod WorkedPlaces
-- Inner: what the code of a walk says of the part that is left.
pub mod WalkRest
