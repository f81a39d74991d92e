-- The lemmas that upper crates may cite.

-- what the code does in memory
pub use Rattle.slide_code.proofs.Stepping.{slide_block_steps}
-- a command is what the rules say of it
pub use Rattle.slide_code.proofs.Commands.{commands_move}
-- where something runs at a tick, the lines of the effect step are kept
pub use Rattle.slide_code.proofs.Kept.{commands_keep, instruments_keep, lent_keep}
