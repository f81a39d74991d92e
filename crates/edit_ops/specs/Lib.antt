-- To believe: what each edit is refused for and what it does, and what an inverse leads back to.
pub mod Lists
pub mod Patterns
pub mod Orders
pub mod Instruments
pub mod Pointers
pub mod Tables
pub mod Others
pub mod Edits
pub mod Splices
pub mod Numbered
pub mod Back
-- Claimed: laws of these definitions, and what they give for edits that were worked out by hand.
pub mod SameRows
pub mod WorkedSongs
pub mod WorkedPointers
pub mod WorkedRefusals
pub mod WorkedEdits
-- Inner: what the code of one edit answers.
pub mod Does
