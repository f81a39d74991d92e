-- What upper crates may cite of the proofs of this crate.

-- calls of entrances return
pub use Rattle.scope_calls.proofs.Whole.{entrances_return}
-- in at most so many steps, and with the same steps and bytes in machines that agree on what the blocks may read
pub use Rattle.scope_calls.proofs.Weighing.{calls_are_short}
pub use Rattle.scope_calls.proofs.Isolation.{entrances_are_isolated}
-- and leave other bytes, and code that stands apart
pub use Rattle.scope_calls.proofs.Staying.{others_stay, listings_stay, code_stays, code_is_shared}
-- steps leave each byte at which they don't write
pub use Rattle.scope_calls.proofs.Staying.{run_stays}
-- how many bytes the lines take, that all of them are kept, and that they name no label
pub use Rattle.scope_calls.proofs.Sizing.{entrances_take_size, entrance_kept, entrance_names_none}
-- there are at most as many as bytes, and none has bytes as they are
pub use Rattle.scope_calls.proofs.Sizing.{entrance_is_code}
-- and `assemble` refuses none of them
pub use Rattle.scope_calls.proofs.Homes.{entrance_lines_are_at_home, entrance_lines_are_not_refused}
-- a line that branches to no label is at home, and so are two lists of lines that are
pub use Rattle.scope_calls.proofs.Homes.{code_home, homes_join}
-- what a tree means leaves the stack pointer, the decimal flag and the interrupt flag
pub use Rattle.scope_calls.proofs.Keeping.{control, ran_keeps}
