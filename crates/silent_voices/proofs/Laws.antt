-- The lemmas that upper crates may cite.

-- the registers of a mute voice are 0
pub use Rattle.silent_voices.proofs.Muting.{mute_registers}
-- a mute voice with nothing to play stays silent in its turn, and each state of a playable song leaves it mute
pub use Rattle.silent_voices.proofs.Frames.{silent_turn_lem, plays_nothing_lem, mute_states_lem}
