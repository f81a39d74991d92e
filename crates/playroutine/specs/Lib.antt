-- To believe: what a player plays, and what its state stands for.
pub mod Playback
pub mod Cases
-- Claimed: what a player that is played on and on stands for.
pub mod Played
-- Inner: a voice at its step, and what it stands for there.
pub mod AtStep
pub mod PlayingAfter
