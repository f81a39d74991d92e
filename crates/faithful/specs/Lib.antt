-- To believe: where a call may write, what the timer is set to, and when an image plays a song.
pub mod Confined
pub mod Timers
pub mod Faithful
pub mod Histories
pub mod Isolation
-- Claimed: laws of these definitions, and numbers worked by hand; and what goes over to songs that play the same.
pub mod Laws
pub mod SamePlays
pub mod WorkedPlaces
pub mod WorkedMachines
pub mod Routines
pub mod WorkedImages
