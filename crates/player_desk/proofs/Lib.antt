-- What upper crates may cite.
pub mod Laws
-- The desk as the code of a voice sees it.
pub mod VoiceDesks
-- What stands where in memory.
mod Owners
mod Spots
mod Apart
mod Puts
-- What leads there does so in memory.
mod Effects
mod Showing
mod Writing
mod Stepping
mod Leading
mod Following
mod SlidesStay
mod Joining
mod Reading
-- The rows of the table of variables, and what stands around a voice's own bytes.
mod Views
mod Arounds
-- A voice in memory.
mod Memory
mod Leaving
mod Places
mod SharedMemory
mod Variables
