-- What upper crates may cite of the proofs of this crate.

-- the table and its inverse
pub use Rattle.cpu6502.proofs.Inverse.{opcodes_have_rows, rows_have_opcodes, rows_differ}
-- its cycles
pub use Rattle.cpu6502.proofs.Columns.{has_row, rows_have_these_cycles, effects_take_cycles}
-- each stop has its cause; sums are of numbers
pub use Rattle.cpu6502.proofs.Causes.{stops_have_causes}
pub use Rattle.cpu6502.proofs.Sums.{sums_are_of_numbers, differences_are_of_numbers}
-- machines stay machines
pub use Rattle.cpu6502.proofs.Machines.{step_keeps, call_keeps}
-- a call ends in one way
pub use Rattle.cpu6502.proofs.Calls.{called_once, not_under_way, no_stop, returned_fails, stopped_fails, under_way_fails}
-- runs of the machine: their sums, and their stops
pub use Rattle.cpu6502.proofs.Steps.{run_one, run-suc, run_stopped, writes_in-add, writes_in-stopped, steps_take_few_cycles}
