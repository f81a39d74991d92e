-- The lemmas that upper crates may cite.

-- how many parts there are, which, and at most how often
pub use Rattle.scope_parts.proofs.Counted.{parts_take_size, parts_are_kept, parts_are_bounded}
-- and at least
pub use Rattle.scope_parts.proofs.There.{parts_are_there}
