-- The lemmas that upper crates may cite.

-- a voice that is safe and keeps the song's notes looks up numbers that the song asks for alone
pub use Rattle.kept_notes.proofs.Asked.{voices_look_up_asked_lem}
-- and comes to its fetch with a gateoff timer of the song
pub use Rattle.kept_notes.proofs.Timers.{timers_are_used_lem}
-- each rule and each step of a frame keeps the song's notes, and each state of a playable song does
pub use Rattle.kept_notes.proofs.Frames.{notes_within_lem, plays_its_notes_lem, states_keep_notes_lem}
-- what each step of a voice begins with does
pub use Rattle.kept_notes.proofs.Frames.{playing_keeps, before_keeps}
-- each play's transpose is one of its orderlist's
pub use Rattle.kept_notes.proofs.Transposes.{play_transpose}
