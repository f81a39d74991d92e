-- To believe: what a voice keeps of notes, numbers and timers.
pub mod Voices
-- Claimed: each voice of a playable song keeps this, looks up no other numbers, and fetches by no other timer.
pub mod NoteLaws
-- Claimed: what a voice of a small song keeps and looks up, worked out by hand.
pub mod WorkedVoices
