-- The door: the lemmas that upper crates may cite.
pub mod Laws
-- Choices, and voices with other numbers.
pub mod Choices
pub mod Moved
-- Over any two look-ups: each rule commutes with new numbers, where what it meets agrees.
pub mod Slides
pub mod Programs
pub mod Waves
pub mod Ticks
pub mod Rows
pub mod Fetched
-- A playable song and other look-ups that agree with it: what is met agrees, and each rule keeps states alike.
pub mod Agreed
pub mod Reading
pub mod Rules
pub mod Fetches
-- Agreement can be had.
pub mod Themselves
-- Steps of voices, frames and traces.
pub mod Steps
pub mod Frames
-- The same rows in other patterns.
pub mod SameRows
pub mod SameTraces
pub mod RowLists
-- Before an instrument is named: which one a voice begins with doesn't show.
pub mod Runs
pub mod Begun
pub mod BegunTicks
pub mod BegunFetches
pub mod BegunFrames
-- What frames use.
pub mod Turns
pub mod Uses
-- Orderlists.
pub mod Orders
-- A song under new numbers in another one.
pub mod Images
-- Parts and frames of a small song with other numbers, computed.
pub mod WorkedMaps
-- Small songs that begin with one instrument or another, computed.
pub mod WorkedBegins
-- A small song and its cut, computed.
pub mod WorkedRows
