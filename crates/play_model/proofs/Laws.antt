-- The lemmas that upper crates may cite.

-- the ranges: of what a song has under a number, of a start, and of all that rules and frames leave
pub use Rattle.play_model.proofs.RangesOfFrames.{song_look_ups, start_lem, ranges_lem, frame_ranges_lem, song_ranges_lem}
-- a transposed note is a byte, and the wrapping sum of two
pub use Rattle.play_model.proofs.RangesOfRules.{transposed_small}
pub use Rattle.play_model.proofs.RangesOfFrames.{transposes_lem}
-- a song that is refused for nothing can be played
pub use Rattle.play_model.proofs.FirstRefusals.{refused_or_playable_lem}
-- each silent song can be played
pub use Rattle.play_model.proofs.SilentSongs.{silent_songs_can_be_played_lem}
-- what a song comes to is closed, and what a playable song comes to is there
pub use Rattle.play_model.proofs.ReachedRows.{stored_if, jump_left, jump_is_stored, jumps_are_programs, no_wave_pointer}
pub use Rattle.play_model.proofs.ReachedRows.{led_by, no_speed_led, closed_lem}
pub use Rattle.play_model.proofs.PlayableSongs.{whole_lem, reached_byte_lem, stays_lem}
-- a song is refused for one thing
pub use Rattle.play_model.proofs.OneRefusal.{one_order, same_table, one_refusal, refused_lem}
-- what isn't used doesn't count
pub use Rattle.play_model.proofs.UnusedFeatures.{unused_lem}
-- the registers of n calls in one go, that a trace has them, and so what a run leaves
unfoldable pub use Rattle.play_model.proofs.Computed.{calls_from}
pub use Rattle.play_model.proofs.Computed.{calls_are_traced, plays}
