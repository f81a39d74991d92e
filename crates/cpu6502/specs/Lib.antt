-- to believe: the table of opcodes
pub mod Opcodes
-- to believe: what each group of instructions does, and one instruction of any
pub mod Registers
pub mod Loads
pub mod Transfers
pub mod Logic
pub mod Arithmetic
pub mod Compares
pub mod Shifts
pub mod Counts
pub mod Flags
pub mod Branches
pub mod Jumps
pub mod Stack
pub mod Effects
-- to believe: how many clock cycles it takes
pub mod Cycles
-- inner: an instruction between its look-up and its effect
pub mod Fetch
-- to believe: machines, their steps, their calls, and the log of a call
pub mod Code
pub mod Step
pub mod Call
pub mod Log
-- claimed: what the definitions say, and steps worked by hand
pub mod Rows
pub mod Manual
pub mod Stops
pub mod Sums
pub mod Machines
pub mod WorkedSteps
pub mod WorkedModes
pub mod WorkedCalls
pub mod WorkedCycles
