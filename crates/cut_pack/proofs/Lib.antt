-- The door: the lemmas that upper crates may cite.
pub mod Laws
-- The song that is packed for a song.
pub mod Chosen
pub mod Asked
-- What packing answers.
pub mod Packed
-- What small songs use, and what is packed for them.
pub mod WorkedSets
pub mod WorkedChosen
