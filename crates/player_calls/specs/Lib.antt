-- To believe: layouts in which each variable has a byte, and what is asked of a player in an image.
pub mod WideLayouts
pub mod WorkedWide
pub mod Players
-- Claimed: what its calls do.
pub mod CallLaws
