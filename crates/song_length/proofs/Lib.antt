-- The door: what upper crates may cite.
pub mod Laws
-- What repeats goes on.
mod Repeating
-- The first repeat.
mod Least
-- One play more.
mod OnePlay
-- The plays of one window.
mod Windows
-- Songs that play on.
mod PlayingOn
-- What is found out is told.
mod Telling
-- The first place.
mod Placing
-- What is told of a song.
mod Answering
-- What follows from it.
mod Lasting
mod Once
-- What is worked by hand.
mod Worked
-- What each play costs.
mod Costing
