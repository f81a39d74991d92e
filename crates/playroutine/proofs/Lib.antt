-- The door: what upper crates may cite.
pub mod Laws
-- The fetch of a row.
mod Fetched
-- A voice at its step, the registers, and a frame.
mod Steps
mod JoinedLists
mod WithinFrame
-- A player before its first frame, and one that is played on and on.
mod Starts
mod Traces
mod Cases
