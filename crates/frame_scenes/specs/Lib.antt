-- To believe: what a frame stands on; and claimed, that it is ready then.
pub mod FrameScenes
-- Worked: what is no scene, for each of its parts alone.
pub mod WorkedScenes
