-- To believe: what is kept from frame to frame, what is looked up, the rules, and the frame and the trace.
pub mod Wrap
pub mod Freq
pub mod Speeds
pub mod LookUps
pub mod State
pub mod StandsFor
pub mod Helpers
pub mod FilterStep
pub mod TickStep
pub mod WaveStep
pub mod EffectStep
pub mod PulseStep
pub mod FetchRow
pub mod Frame
-- To believe: what a song makes use of, which songs can be played, and what a player of a song has to do.
pub mod Used
pub mod Reached
pub mod Playable
pub mod Features
pub mod Uses
pub mod Safe
-- Claimed: ranges, the length of a trace, that silent songs can be played, and laws of what a song uses.
pub mod Ranges
pub mod RangeLaws
pub mod RefusalLaws
pub mod TraceLaws
pub mod SilentLaws
pub mod UseLaws
-- Claimed: what a small song uses, and why others can't be played, worked out by hand.
pub mod WorkedUses
pub mod WorkedRefusals
-- Claimed: frequencies, timers, and frames of small songs, worked out by hand.
pub mod WorkedFrequencies
pub mod WorkedTimers
pub mod WorkedSongs
pub mod WorkedRuns
pub mod WorkedFrames
