-- The lemmas that upper crates may cite.

-- a text is a script of one list of commands at most, has one first bad line at most, and never both
pub use Rattle.edit_script.proofs.ScriptLaws.{one_script, one_bad_line, script_or_bad_line}
-- a text makes one song of a song, or fails at one line for one of six causes, and never both
pub use Rattle.edit_script.proofs.RunLaws.{edits_in_one_way}
