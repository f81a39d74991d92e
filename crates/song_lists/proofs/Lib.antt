-- What upper crates may cite.
pub mod Laws
-- Bytes with labels in front of them.
pub mod Cutting
-- Their labels.
pub mod Naming
-- Lists one behind the other.
pub mod Pieces
-- The lists of a packed song.
pub mod Lists
-- Where each of them stands.
pub mod Stretches
-- What each list has at its label.
pub mod Standing
-- The lists in memory.
pub mod Inside
-- What the player asks for.
pub mod Laying
-- Their labels.
pub mod DataMarks
-- Their places.
pub mod DataPlaces
-- The lines.
pub mod DataLines
-- Places, a list more at a time.
pub mod PlaceSteps
-- Bytes, a list more at a time.
pub mod ByteSteps
-- Worked by hand.
pub mod WorkedLists
mod WorkedOrders
mod WorkedDenials
mod WorkedLayouts
