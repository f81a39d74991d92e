-- To believe: what a file is loaded as, and what a call answers.
pub mod State
pub mod Calls
-- Claimed: what holds of a machine that is loaded.
pub mod Laws
