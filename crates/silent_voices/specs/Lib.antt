-- To believe: when a voice has nothing to sound, and which channels have nothing to play.
pub mod Mute
-- Claimed: the voice of a channel with nothing to play stays mute, and its turns change nothing of what voices share.
pub mod SilentLaws
-- Claimed: mute voices, silent channels and their turns in small songs, worked out by hand.
pub mod WorkedSilent
