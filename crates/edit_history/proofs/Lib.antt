-- The door: what upper crates may cite.
pub mod Laws
-- What a session keeps: edits that come and go at the end.
pub mod KeptLaws
-- The steps of a history, and their ways back.
pub mod StepLaws
-- Histories that steps lead to, and that memory is never why one isn't made.
pub mod ReachedLaws
-- What the calls of a session keep, and that each is a step of its history.
pub mod SessionLaws
-- What is unfolded to go through histories of songs that are written out.
pub mod Doing
