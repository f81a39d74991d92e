-- The door: the lemmas that upper crates may cite.
pub mod Laws
-- The walk along an orderlist: its plays, what is left of it from a place on, and its places.
pub mod Walks
pub mod Rests
pub mod Plays
pub mod PlaceLaws
-- What is found under a number.
pub mod LookUps
-- How songs are spelled.
pub mod Spelling
