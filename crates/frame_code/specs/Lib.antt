-- To believe: the two entrances, what a frame is ready for, and what a beginning stands on.
pub mod FrameBlock
pub mod InitBlock
