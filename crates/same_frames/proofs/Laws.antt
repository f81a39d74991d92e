-- The lemmas that upper crates may cite.

-- look-ups that agree with a playable song up to new numbers play it
pub use Rattle.same_frames.proofs.Frames.{rules_same_lem, frames_same_lem, traces_of_songs_lem, trace_from_start}
-- the states after any number of frames are alike, and so are those within a frame
pub use Rattle.same_frames.proofs.Frames.{states_alike_lem, frame_alike}
pub use Rattle.same_frames.proofs.Uses.{before_alike}
-- the instrument with which voices begin doesn't show, where they name one before a note
pub use Rattle.same_frames.proofs.BegunFrames.{first_instruments_lem}
-- the first item of a list that passes a test
pub use Rattle.same_frames.proofs.BegunFetches.{find_first, find_none}
-- what their frames use is what the song's frames use
pub use Rattle.same_frames.proofs.Uses.{uses_same_lem, no_other_case_lem}
-- without new numbers a song agrees with itself
pub use Rattle.same_frames.proofs.Themselves.{themselves_lem}
-- behind a reached row that is neither a jump nor the last of its program the next one is reached
pub use Rattle.same_frames.proofs.Reading.{after_reached}
-- orderlists and subtunes with new numbers for their patterns play these
pub use Rattle.same_frames.proofs.Orders.{moved_orders_lem, moved_subtunes_lem}
-- the bytes of an orderlist that number patterns, and the others
pub use Rattle.same_frames.proofs.Orders.{is_low, is_lower, is_high}
-- over any two look-ups each rule commutes with new numbers, where what it meets agrees
pub use Rattle.same_frames.proofs.Moved.{Held, held_of, put, put_playing, put_waved, put_ticked}
pub use Rattle.same_frames.proofs.Slides.{IsSpeedFor}
pub use Rattle.same_frames.proofs.Programs.{GoesOnFor, IsPulseFor, pulse_moved_lem, IsFilterFor, filter_moved}
pub use Rattle.same_frames.proofs.Waves.{effect_moved, IsWaveFor, wave_moved}
pub use Rattle.same_frames.proofs.Ticks.{BeginsFor, IsRowParam, IsTickFor, tick_moved}
pub use Rattle.same_frames.proofs.Fetched.{IsFetchFor, fetch_moved}
-- a song whose rows another song has under new numbers: what the other song comes to from them
pub use Rattle.same_frames.proofs.Images.{IsUnder, StandsForOne, IsImage, image_of, endless_moved, channel_moved}
pub use Rattle.same_frames.proofs.Images.{low_byte, high_byte, is_there, stored_is_played, old_some, row_under}
pub use Rattle.same_frames.proofs.Images.{wave_pointer_from, same_jump, jump_right, led_from, target_from, step_from}
pub use Rattle.same_frames.proofs.Images.{no_jump_there, row_there}
-- the same rows in other patterns
pub use Rattle.same_frames.proofs.SameTraces.{same_rows_lem}
pub use Rattle.same_frames.proofs.RowLists.{row_lists_lem}
