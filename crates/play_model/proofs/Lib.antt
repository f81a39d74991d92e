-- The door: the lemmas that upper crates may cite.
pub mod Laws
-- Of no subject.
pub mod Choices
-- Songs that play rests: nothing points at a row but instrument 1, and only their tables can fail.
pub mod SilentSongs
-- Where a rule fails, some refusal is the first.
pub mod FirstRefusals
-- Ranges: each rule, each step, each voice and each frame keeps them.
pub mod RangesOfRules
pub mod RangesOfSteps
pub mod RangesOfVoices
pub mod RangesOfFrames
-- What a song uses: the rows that it comes to, and what a playable song has.
pub mod ReachedRows
pub mod PlayableSongs
pub mod OneRefusal
pub mod UnusedParts
pub mod UnusedFeatures
-- What a small song uses, and why others can't be played, worked out by hand.
pub mod WorkedUses
pub mod WorkedRefusals
-- Worked frames, computed.
pub mod Computed
