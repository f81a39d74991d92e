-- The lemmas that upper crates may cite.

-- what the code does in memory
pub use Rattle.wave_code.proofs.Stepping.{wave_block_steps}
pub use Rattle.wave_code.proofs.Beginning.{effect_block_begins}
pub use Rattle.wave_code.proofs.Commanding.{command_block_does, command_block_lends}
-- a command that isn't lent is the same whether the program goes on before it or behind it
pub use Rattle.wave_code.proofs.Commanding.{commands_leave_the_program}
