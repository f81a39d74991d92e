-- The door: what upper crates may cite.
pub mod Laws
-- Inner: the way from a place of an orderlist to a pattern, and the count of a packed song.
mod Greatest
mod OrderWalks
mod SongWalks
-- Inner: which instruments hold something before their notes.
mod LastHolders
-- Inner: packed songs, ways and holders that were worked out by hand.
mod WorkedUnpacked
mod WorkedWalks
mod WorkedHolders
