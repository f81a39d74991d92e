-- What upper crates may cite.
pub mod Laws
-- The lists behind the code, and the room of all.
mod Lists
mod Placing
mod Laying
-- What stands in memory.
mod Standing
mod Beginning
-- An image.
mod Placed
mod Whole
mod Made
mod Assembled
mod WorkedImages
-- There is one, and what the system changes in it.
mod Begun
mod Places
mod Alone
mod Timer
mod Systems
