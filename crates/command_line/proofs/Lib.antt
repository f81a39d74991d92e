-- The door: what upper crates may cite.
pub mod Laws
-- Inner: the words and the job that they name.
mod Forms
-- Inner: the digits of lines, and how long lines are.
mod Digits
mod Room
