-- Straight code, step by step, and its loops.
mod Going
-- Places that are cleared.
mod Clearing
-- The subtune's number and the timer.
mod Taking
-- The variables, once they are cleared: instruction by instruction, and the turns of the three voices.
mod Variables
mod Turns
-- The block, in memory.
mod Beginning
mod Starting
mod WorkedInit
-- The door: what upper crates may cite.
pub mod Laws
