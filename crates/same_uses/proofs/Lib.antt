-- The door: the lemmas that upper crates may cite.
pub mod Laws
-- The orderlists, rows and instruments that the other song uses.
pub mod Parts
-- The rows of tables that it comes to.
pub mod Reached
-- Its features, its facts, and the numbers that it asks for.
pub mod Features
pub mod Facts
pub mod Numbers
-- All of it.
pub mod NoRows
-- Small songs.
pub mod WorkedUses
