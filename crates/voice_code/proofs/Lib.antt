-- What upper crates may cite.
pub mod Laws
-- Code one behind the other.
mod Joining
mod Ways
-- Lists in a later memory.
mod Lists
-- The rules.
mod SongFields
mod Orders
mod Rules
mod Running
-- One block behind the other.
mod Stages
mod Effects
mod Waving
mod Commanding
mod SongLists
mod Readying
mod Ending
-- The whole.
mod Silence
mod Stepping
mod Whole
mod WorkedVoice
