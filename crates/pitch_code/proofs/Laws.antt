-- The lemmas that upper crates may cite.

-- what the code does in memory
pub use Rattle.pitch_code.proofs.Setting.{pitch_block_sets}
pub use Rattle.pitch_code.proofs.Giving.{given_back_block_plays}
