-- To believe: the code of a voice in a frame.
pub mod VoiceBlock
pub mod WorkedVoice
