-- To believe: the code of a voice's registers.
pub mod RegisterBlock
-- Claimed: a memory in which they are written.
pub mod WorkedRegisters
