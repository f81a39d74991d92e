-- The door: what upper crates may cite.
pub mod Laws
-- Inner: new numbers.
mod Ranks
mod Renumbered
-- Inner: segments.
mod FirstRows
mod ClosedRows
mod EqualRows
mod Mapped
-- Inner: speeds.
mod SpeedRows
-- Inner: the laws, and tables that were worked out by hand.
mod KeptPrograms
mod KeptRows
mod WorkedTables
