-- What upper crates may cite.
pub mod Laws
-- Lines of a tree, and what the rule does.
mod Lines
mod Rules
-- The desk between the lines of one command and those of the next.
mod Bytes
mod Links
-- Each command, and those that a row and the wave table do alike.
mod Commands
mod Tempos
mod Lists
