-- claimed: what upper crates may cite
pub mod Laws
-- inner: runs, calls, logs and stops
pub mod Logs
pub mod Steps
pub mod Calls
pub mod Causes
pub mod Machines
-- inner: the table and its inverse, its cycles, sums
pub mod EachRow
pub mod Inverse
pub mod Accumulator
pub mod Columns
pub mod Fetch
pub mod Sums
-- Machines that are the same.
mod Same
