-- Claimed: frames of small songs by another reading of the rules; bench/worked_frames.py writes these files.
pub mod WorkedCorners
pub mod WorkedEdges
pub mod WorkedTunes
pub mod WorkedSubtunes
pub mod WorkedSlides
pub mod WorkedWithoutEffects
pub mod WorkedWithoutPulse
pub mod WorkedLongPulses
pub mod WorkedWithoutBoth
pub mod WorkedBareVoices
-- Claimed: that a vibrato with another period leaves the same as one of these.
pub mod WorkedPeriods
