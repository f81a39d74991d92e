-- The lemmas that upper crates may cite.

-- no song asks for a number above 128
pub use Rattle.asked_numbers.proofs.Ranges.{asked_small}
-- a range by its ends; a song has one, and it lies in the table
pub use Rattle.asked_numbers.proofs.Ranges.{AreEnds, range_is, songs_have_one_range, ranges_lie_in_the_table}
-- without half tones a song asks for the numbers that sound
pub use Rattle.asked_numbers.proofs.Made.{sounds_alone}
-- the numbers of small songs, and no others; the note and the number of the song of one note
pub use Rattle.asked_numbers.proofs.WorkedNumbers.{speed_depends, numbers_are_worked}
pub use Rattle.asked_numbers.proofs.WorkedWaves.{its_note_sounds, its_note_alone, its_number_sounds, its_number_alone}
