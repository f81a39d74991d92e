-- To believe: the code of the pulse step.
pub mod PulseBlock
pub mod WorkedPulse
