-- These frames, computed by the checker.
mod WorkedCorners
mod WorkedEdges
mod WorkedTunes
mod WorkedSubtunes
mod WorkedSlides
mod WorkedWithoutEffects
mod WorkedWithoutPulse
mod WorkedLongPulses
mod WorkedWithoutBoth
mod WorkedBareVoices
mod WorkedPeriods
