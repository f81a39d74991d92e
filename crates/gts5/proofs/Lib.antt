-- The door: what upper crates may cite.
pub mod Laws
-- Inner: each piece is read as it is spelled, and spelled as it is read.
mod Takes
mod Cuts
mod FieldPieces
mod OrderPieces
mod PatternPieces
mod Whole
-- Inner: the faults of the reader are those of the text.
mod SameFaults
-- Inner: the steps of the reader's loops, and why its lists aren't over their limits.
mod Loops
mod Within
-- Inner: the laws.
mod Canonicals
