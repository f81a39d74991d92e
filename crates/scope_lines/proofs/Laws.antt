-- What upper crates may cite of the proofs of this crate.

-- the lines of a tree do what it means: at a site, and wherever they stand
pub use Rattle.scope_lines.proofs.Whole.{lowered_blocks_do}
pub use Rattle.scope_lines.proofs.Ways.{Ground, HasCode, IsAround, target, Comes}
pub use Rattle.scope_lines.proofs.Meant.{tree_comes}
pub use Rattle.scope_lines.proofs.Nearing.{IsNear, nothing_near}
-- in as many cycles as it takes there, which are the same from desks with the same in what is known
pub use Rattle.scope_lines.proofs.Whole.{lowered_blocks_take}
pub use Rattle.scope_lines.proofs.SameCycles.{cycles_are_isolated}
-- they run at most its weight
pub use Rattle.scope_lines.proofs.Weighing.{costs_are_bounded}
-- and do the same from states and desks that have the same in what is known
pub use Rattle.scope_lines.proofs.Isolating.{trees_are_isolated, only_bytes, sites_are_isolated, lowered_blocks_are_isolated}
pub use Rattle.scope_lines.proofs.Knowing.{IsWithin, within, fewer}
-- their bytes, that all of them are kept, and that they name no label
pub use Rattle.scope_lines.proofs.Sizing.{sizes_are_bounded, lines_size, lines_kept, both_unnamed, lines_name_none}
-- there are at most as many lines as bytes, and none has bytes as they are
pub use Rattle.scope_lines.proofs.Counting.{AreCode, both_code, lines_are_code}
-- they are at home in any listing, and none of them is refused there
pub use Rattle.scope_lines.proofs.Homes.{lowered_lines_are_at_home, lowered_lines_are_not_refused}
-- how lines are read from the first one on
pub use Rattle.scope_lines.proofs.Readings.{Put, Nested, Chosen, simple_reads, scope_reads, loop_reads, when_reads}
pub use Rattle.scope_lines.proofs.Readings.{choose_reads, ends_behind}
pub use Rattle.scope_lines.proofs.Goings.{simple_size, is_simple_if, own_most}
