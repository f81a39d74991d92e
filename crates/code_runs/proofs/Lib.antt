-- to believe: nothing; each file here is checked
-- claimed: what upper crates may cite
pub mod Laws
-- inner: how runs are put together, and the step of an instruction by its mode and by its name
pub mod Moves
pub mod Modes
pub mod Steps
pub mod Branches
-- inner: code from bytes, from runs to calls, and the cycles of runs
pub mod Standing
pub mod Bridge
pub mod Cycles
pub mod Entry
