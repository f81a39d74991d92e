-- To believe: the table of forms, what a line spells, what a text is, what its commands make of a song, and how the
-- answers of `parse` and `run` stand to that.
pub mod Forms
pub mod Spells
pub mod Scripts
pub mod Runs
pub mod Edited
pub mod Answers
pub mod Held
-- Claimed: laws of these definitions, and lines, scripts and runs that were worked out by hand.
pub mod ScriptLaws
pub mod EditLaws
pub mod WorkedScripts
pub mod WorkedRuns
-- Inner: how a line is read.
pub mod Reading
