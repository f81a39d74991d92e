-- to believe: states and runs, instructions that stand in memory
pub mod Runs
pub mod Code
-- claimed: what runs say of machines and calls, how many cycles they take, what instructions that stand do, and each
-- name's step
pub mod Calls
pub mod Cycles
pub mod Decoded
pub mod Steps
