-- To believe: the code of the tick step.
pub mod TickBlock
pub mod WorkedTick
