-- The lemmas that upper crates may cite.

-- a playable song comes to safe states alone, and uses in each of its frames no more than its features
pub use Rattle.safe_states.proofs.Frames.{plays_safely_lem, states_are_safe_lem, no_unused_case_lem}
-- each rule and each step of a frame keeps what it works on safe
pub use Rattle.safe_states.proofs.Steps.{safe_within_lem}
-- what each step of a voice begins with is safe
pub use Rattle.safe_states.proofs.Steps.{playing_safe}
pub use Rattle.safe_states.proofs.Frames.{before_safe}
-- a safe pointer that isn't 0 is a step, a program goes on from there, and a table with a reached row is pointed at
pub use Rattle.safe_states.proofs.Pointers.{CanBePlayed, is_step, goes_on, has_pointer}
-- the orderlists of a playable subtune are played, and a play's pattern has 1 to 128 rows
pub use Rattle.safe_states.proofs.Fetched.{is_played, play_length}
