-- The door: the lemmas that upper crates may cite.
pub mod Laws
-- Lists of lists, and rows and their bytes.
pub mod Lists
pub mod RowTexts
-- An orderlist that names the pieces of its patterns.
pub mod Cuts
-- The pieces of a pattern, under their numbers, and patterns that stay whole.
pub mod Slices
pub mod Numbers
pub mod Repeats
-- A song whose patterns are cut: its orderlists and subtunes, its limits, and what it uses.
pub mod Orders
pub mod CutSongs
pub mod Limits
pub mod Uses
pub mod StandIns
-- The choice.
pub mod Choices
-- Small orderlists, patterns, choices and songs that stand in for others.
pub mod WorkedCuts
pub mod WorkedPieces
pub mod WorkedChoice
pub mod WorkedStandIns
