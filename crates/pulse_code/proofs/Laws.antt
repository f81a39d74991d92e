-- The lemmas that upper crates may cite.

-- what the code does in memory
pub use Rattle.pulse_code.proofs.Stepping.{pulse_block_steps}
