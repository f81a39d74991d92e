-- To believe: the words of the command line and the job that they name, and what lines are made of.
pub mod Words
pub mod Forms
pub mod Topics
pub mod Lines
pub mod RegisterText
-- Claimed: laws of these definitions.
pub mod Laws
-- Inner: the job, the pieces of a line, its room, and what a run says last.
pub mod Job
pub mod Message
pub mod Room
pub mod Last
