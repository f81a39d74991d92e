-- The door: what upper crates may cite.
pub mod Laws
-- The numbers that are moved stay in their ranges.
mod Ranges
-- The reasons by which songs are refused: what isn't stored, notes before instruments, and that there is one.
mod FirstOver
mod NotStored
mod FirstOpenings
mod FoundOpenings
mod Channels
mod OneRefusal
-- Which patterns the second song names.
mod Named
-- The joined song: what it has under a number, and that it plays both songs.
mod FoundParts
mod FirstPart
mod SecondPart
mod SecondBegins
mod Plays
mod MovedParts
mod JoinedPlayable
mod JoinedLimits
mod Whole
-- Worked songs, computed.
pub mod WorkedJoins
pub mod WorkedRefusals
pub mod WorkedStill
pub mod WorkedWhole
pub mod WorkedJoinable
-- What a joined song has of each part.
pub mod Sums
