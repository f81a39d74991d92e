-- What upper crates may cite.
pub mod Laws
-- How the free places are found.
mod FreePlaces
-- Labels in lists, and free places that rise.
mod Lists
mod FreeOrder
-- Whose byte a variable has, where it stands, and what follows.
mod Owners
mod Within
mod Rising
mod Apart
mod First
mod Voices
-- Which labels lines name.
mod Covered
-- Worked by hand.
mod WorkedPlaces
