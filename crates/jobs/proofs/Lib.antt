-- What upper crates may cite.
pub mod Laws
-- What the parts of a run come to.
mod Answered
mod RegisterLines
mod Calls
mod Chains
mod Charts
mod Chosen
mod Costs
mod Due
mod Ends
mod Everywhere
mod Fileless
mod Joining
mod Lengths
mod Listed
mod Longer
mod Measured
mod MeasuredFiles
mod MetPremises
mod OneAsked
mod OneProgram
mod PackedMeasured
mod Bounded
mod Passes
mod PlayedFiles
mod Printed
mod PrintedLines
mod Reading
mod Room
mod SecondFile
mod Shown
mod SmallSongs
mod Told
mod Traced
mod WorkedLines
