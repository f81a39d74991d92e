-- To believe: what an instrument holds before its notes, which songs have a fact, and which set of facts is a song's.
pub mod Hold
pub mod Facts
-- Worked by hand.
pub mod WorkedFacts
