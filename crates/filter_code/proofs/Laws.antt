-- The lemmas that upper crates may cite.

-- what the code does in memory
pub use Rattle.filter_code.proofs.Stepping.{filter_block_steps}
