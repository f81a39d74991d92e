-- The door: what upper crates may cite.
pub mod Laws
-- Inner: a word is one keyword's or none's, arguments are read as they are spelled, and so are lines.
mod KeywordLaws
mod ArgumentLaws
mod ActionLaws
-- Inner: scripts and their first bad lines.
mod ScriptLaws
-- Inner: the first line of a text, and the steps of the loop over lines.
mod TextLaws
-- Inner: the fold over commands, and what a text makes of a song.
mod RunLaws
-- Inner: what reads and runs texts that are written out.
mod OnTexts
