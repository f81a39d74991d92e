-- To believe: the code of a note's frequency, and that of a lent command that goes back.
pub mod PitchBlock
pub mod GivenBackBlock
-- Claimed: memories in which a note is set and a command given back.
pub mod WorkedPitches
pub mod WorkedVoices
