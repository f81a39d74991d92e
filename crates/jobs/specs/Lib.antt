-- To believe: the lines of a job, its stages, what it does, and what stands after a run.
pub mod Lines
pub mod Traces
pub mod Calls
pub mod SongPrograms
pub mod Packed
pub mod Certificates
pub mod Selftest
pub mod Costs
pub mod Lengths
pub mod Stages
pub mod Jobs
pub mod Outcome
pub mod Due
pub mod Stands
pub mod Answers
-- Claimed: laws of these definitions.
pub mod Laws
pub mod Everywhere
-- Claimed: the premises of the clauses can be met.
pub mod MetPremises
-- Worked by hand: lines, limits and headers.
pub mod WorkedLines
-- Inner: what the parts of the top call promise each other.
pub mod Endings
