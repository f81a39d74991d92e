-- To believe: the labels and whose bytes they are, what the variables hold, the room in memory, when it holds a voice
-- that is playing, the frequencies of notes, where a voice is in its song, which lines are kept for a command and for a
-- fact, what the variables begin with, the gap in front of the frequencies, and the lists of a packed song.
pub mod Labels
pub mod Variables
pub mod Rooms
pub mod Playing
pub mod Frequencies
pub mod Fetching
pub mod Commands
pub mod FactLines
pub mod Forms
pub mod Gaps
pub mod SongLists
pub mod Holds
pub mod Starting
-- Claimed: worked by hand.
pub mod WorkedMemory
pub mod WorkedPlays
pub mod WorkedFetching
pub mod WorkedCommands
pub mod WorkedConditions
pub mod WorkedForms
pub mod WorkedStarting
pub mod WorkedLists
pub mod WorkedHolds
