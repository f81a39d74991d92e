-- Sets of numbers: their bits, and how they are made.
pub mod Bits
pub mod MadeSets
-- Notes: of patterns, of orderlists, and of the song.
pub mod NotesOfPatterns
pub mod OrderNotes
-- Numbers: of the notes as they sound.
pub mod SoundedNumbers
-- The least and the greatest of them.
pub mod Ends
