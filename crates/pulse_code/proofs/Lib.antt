-- What upper crates may cite.
pub mod Laws
mod PulseRows
mod Widths
mod Pulses
-- The code in memory.
mod Stepping
mod WorkedPulse
