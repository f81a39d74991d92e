-- To believe: what needs a feature, the first place that does, and the places that keep a part.
pub mod Needs
pub mod Places
pub mod PartPlaces
-- Claimed: laws of these.
pub mod PlaceLaws
-- Worked by hand.
pub mod WorkedPlaces
-- Inner: how the first place is looked for.
pub mod Search
