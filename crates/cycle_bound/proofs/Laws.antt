-- What upper crates may cite of the proofs of this crate.

-- admitted numbers bound the clock cycles of blocks, and of calls of an entrance
pub use Rattle.cycle_bound.proofs.Bounds.{trees_keep_bounds, blocks_keep_bounds}
pub use Rattle.cycle_bound.proofs.EntranceBounds.{entrances_keep_bounds, calls_keep_bounds}
-- the least numbers have room in 64 bits
pub use Rattle.cycle_bound.proofs.Spans.{least_fit}
-- the same numbers are admitted where loops have the same turns
pub use Rattle.cycle_bound.proofs.Turns.{admitted_same}
-- numbers that are asked are as many as lines
pub use Rattle.cycle_bound.proofs.Bounds.{asked_count}
pub use Rattle.cycle_bound.proofs.Shorts.{call_count}
-- of two lists of numbers, one behind the other, the first that is too small
pub use Rattle.cycle_bound.proofs.Shorts.{short_first, short_second}
-- admitted numbers are as many as a call has; its least numbers are admitted, and the first of them is the least
pub use Rattle.cycle_bound.proofs.Shorts.{admitted_length, first_least}
pub use Rattle.cycle_bound.proofs.Leasts.{least_are_least}
