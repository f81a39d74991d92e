-- The lemmas that upper crates may cite.

-- what the code does in memory
pub use Rattle.register_code.proofs.Sounding.{register_block_writes}
