-- The lemmas that upper crates may cite.

-- what the code does in memory
pub use Rattle.tick_code.proofs.Stepping.{tick_block_steps}
-- its lines are kept where those are of each feature that the voice's turn uses
pub use Rattle.tick_code.proofs.KeptUses.{KeepsUsed, tick_kept}
