-- To believe: which variables have a byte, and where it stands.
pub mod Places
-- Claimed.
pub mod PlaceLaws
-- Worked by hand.
pub mod WorkedPlaces
