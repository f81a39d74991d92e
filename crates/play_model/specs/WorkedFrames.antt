-- Frames of the small songs, worked out by hand.
use Rattle.std.specs.Prelude.{true, false, ◌≡◌, ℕ, ◌+◌, ◌*◌, List, [], ◌∷◌, ◌++◌, take, drop}
use Rattle.std.specs.Prelude.{replicate, slice_index}
use Rattle.song_model.specs.declared.songs.Song.{Song}
use Rattle.play_model.specs.declared.options.Options.{Options}
use Rattle.play_model.specs.Frame.{trace, trace_with, state_after}
use Rattle.play_model.specs.WorkedRuns.{silent_registers, from_call, left_out, first_left_out, all_left_out}
use Rattle.play_model.specs.WorkedSongs.{with_rows, one_note, low_note, wrapping_note, sliding_note, tied_note}
use Rattle.play_model.specs.WorkedSongs.{funk_song, long_funk_song, rising_note, rising_pulse, three_rows, late_note}
use Rattle.play_model.specs.WorkedSongs.{in_turn, never_fetched, quick_turns, at_once_tempo, short_pulse, set_pulse}
use Rattle.play_model.specs.WorkedSongs.{long_note, with_gate_timer, waiting_wave, other_vibrato, small_song}

-- the seven registers of voice 1 after a call
abbrev pub first_voice_at : Song → ℕ → List ℕ
first_voice_at song call = take 7 (trace song 0 call)

-- the frequency of voice 1 after a call
abbrev pub frequency_at : Song → ℕ → ℕ
frequency_at song call = slice_index (trace song 0 call) 0 + 256 * slice_index (trace song 0 call) 1

-- a note is fetched two frames before it starts, sounds, and is released
pub record OneNoteSounds : Type 0 where
  pub silent : first_voice_at one_note 4 ≡ 0 ∷ 0 ∷ 0 ∷ 0 ∷ 0 ∷ 0 ∷ 0 ∷ []
  pub fetched : first_voice_at one_note 5 ≡ 0 ∷ 0 ∷ 0 ∷ 0 ∷ 0 ∷ 0x0F ∷ 0 ∷ []
  pub started : first_voice_at one_note 7 ≡ 0 ∷ 0 ∷ 0 ∷ 0 ∷ 0x09 ∷ 0x09 ∷ 0xA0 ∷ []
  pub sounds : first_voice_at one_note 8 ≡ 0x68 ∷ 0x11 ∷ 0 ∷ 0x08 ∷ 0x41 ∷ 0x09 ∷ 0xA0 ∷ []
  pub released : first_voice_at one_note 11 ≡ 0x68 ∷ 0x11 ∷ 0 ∷ 0x08 ∷ 0x40 ∷ 0x09 ∷ 0xA0 ∷ []
  pub again : first_voice_at one_note 17 ≡ 0x68 ∷ 0x11 ∷ 0 ∷ 0x08 ∷ 0x40 ∷ 0x0F ∷ 0 ∷ []

-- the lowest note with the lowest transpose wraps to a note that has no frequency
pub record LowNoteIsMute : Type 0 where
  pub note : (state_after low_note 0 8).one.note ≡ 0xF0
  pub sounds : first_voice_at low_note 8 ≡ 0 ∷ 0 ∷ 0 ∷ 0x08 ∷ 0x41 ∷ 0x09 ∷ 0xA0 ∷ []

-- frequencies wrap both ways
abbrev pub VibratoWraps : Type 0
VibratoWraps =
    from_call (frequency_at wrapping_note) 8 6 ≡ 0xFFFF ∷ 0 ∷ 0xFFFF ∷ 0xFFFE ∷ 0xFFFF ∷ 0 ∷ []

-- the slide stops at its target, which a tie note keeps; after another note a tie note has its frequency at once
pub record SlideStops : Type 0 where
  pub slides : from_call (frequency_at sliding_note) 8 12 ≡ replicate 5 0x1168 ++ replicate 7 0x1389
  pub tied : from_call (frequency_at tied_note) 8 7 ≡ replicate 5 0x1168 ++ replicate 2 0x1389

-- a funk value of 0 frames wraps, and the row after it is never fetched
pub record FunkTempoWraps : Type 0 where
  pub one : from_call (λ call. (state_after funk_song 0 call).common.funk_one) 7 3 ≡ replicate 3 255
  pub two : from_call (λ call. (state_after funk_song 0 call).common.funk_two) 7 3 ≡ replicate 3 0
  pub alike : from_call (trace funk_song 0) 1 20 ≡ replicate 20 silent_registers

-- a tick of $80 is loaded anew with the other funk value, and one of $7F goes on to $7E
pub record LongFunkTempoIsCut : Type 0 where
  pub cut : from_call (λ call. (state_after (long_funk_song 0x82) 0 call).one.tick) 7 8 ≡ 0 ∷ 0x81
      ∷ 3 ∷ 2 ∷ 1 ∷ 0 ∷ 0x81 ∷ 3 ∷ []
  pub kept : from_call (λ call. (state_after (long_funk_song 0x81) 0 call).one.tick) 7 4 ≡ 0 ∷ 0x80
      ∷ 0x7F ∷ 0x7E ∷ []

-- a gateoff timer that is longer than the row is never met, and no row is fetched
abbrev pub LongTimerIsNeverMet : Type 0
LongTimerIsNeverMet =
    from_call (trace (with_gate_timer 0x3F one_note) 0) 1 300 ≡ replicate 300 silent_registers

-- bit $40 of the gateoff timer keeps the gate, bit $80 the envelope
pub record GateTimerBits : Type 0 where
  pub neither : first_voice_at (with_gate_timer 0x02 long_note) 17 ≡ 0x68 ∷ 0x11 ∷ 0 ∷ 0x08 ∷ 0x40
      ∷ 0x0F ∷ 0 ∷ []
  pub gate_kept : first_voice_at (with_gate_timer 0x42 long_note) 17 ≡ 0x68 ∷ 0x11 ∷ 0 ∷ 0x08
      ∷ 0x41 ∷ 0x09 ∷ 0xA0 ∷ []
  pub envelope_kept : first_voice_at (with_gate_timer 0x82 long_note) 17 ≡ 0x68 ∷ 0x11 ∷ 0 ∷ 0x08
      ∷ 0x40 ∷ 0x09 ∷ 0xA0 ∷ []

-- a wave row that waits 15 frames, and command 8 that begins the program anew
abbrev pub WaveProgramWaits : Type 0
WaveProgramWaits =
    from_call (frequency_at waiting_wave) 8 24 ≡ replicate 16 0x1168 ++ replicate 7 0x22D0
    ++ 0x1168 ∷ []

-- An instrument without a note brings its vibrato pointer, and the delay stays. Without a pointer
-- the delay doesn't fall.
pub record VibratoChangesAlone : Type 0 where
  pub before : frequency_at (other_vibrato 1) 12 ≡ 0x1168
  pub after : frequency_at (other_vibrato 1) 13 ≡ 0x1178
  pub delayed : from_call (frequency_at (other_vibrato 3)) 12 6 ≡ 0x1168 ∷ 0x1168 ∷ 0x1168 ∷ 0x1178
      ∷ 0x1188 ∷ 0x1178 ∷ []

-- the filter's registers follow one frame after the note
pub record FilterFollows : Type 0 where
  pub set : drop 21 (trace small_song 0 8) ≡ 0 ∷ 0x20 ∷ 0xF1 ∷ 0x1F ∷ []
  pub slides : drop 21 (trace small_song 0 9) ≡ 0 ∷ 0x21 ∷ 0xF1 ∷ 0x1F ∷ []

-- the number in two registers of voice 1 after a call: the frequency is at 0, the pulse width at 2
abbrev pub number_with : Options → Song → ℕ → ℕ → ℕ
number_with o song place call =
    slice_index (trace_with o song 0 call) place
    + 256 * slice_index (trace_with o song 0 call) (place + 1)

-- Without effects at tick 0 the rise begins a call later. Without pulse where a row is fetched the
-- width rests for one call. At speed 2 the rows last twice as many calls.
pub record OptionsAreAsWorked : Type 0 where
  pub each_effect : from_call (number_with (left_out false false 1) rising_note 0) 13 8 ≡ 0x1178
      ∷ 0x1188 ∷ 0x1198 ∷ 0x11A8 ∷ 0x11B8 ∷ 0x11C8 ∷ 0x11C8 ∷ 0x1168 ∷ []
  pub fewer_effects : from_call (number_with (left_out true false 1) rising_note 0) 13 8 ≡ 0x1168
      ∷ 0x1178 ∷ 0x1188 ∷ 0x1198 ∷ 0x11A8 ∷ 0x11B8 ∷ 0x11B8 ∷ 0x1168 ∷ []
  pub each_pulse : from_call (number_with (left_out false false 1) rising_pulse 2) 10 3 ≡ 0x0820
      ∷ 0x0830 ∷ 0x0840 ∷ []
  pub fewer_pulses : from_call (number_with (left_out false true 1) rising_pulse 2) 10 3 ≡ 0x0820
      ∷ 0x0820 ∷ 0x0830 ∷ []
  pub twice_fetched : take 7 (trace_with (left_out false false 2) one_note 0 11) ≡ 0 ∷ 0 ∷ 0 ∷ 0 ∷ 0
      ∷ 0x0F ∷ 0 ∷ []
  pub twice_started : take 7 (trace_with (left_out false false 2) one_note 0 13) ≡ 0 ∷ 0 ∷ 0 ∷ 0
      ∷ 0x09 ∷ 0x09 ∷ 0xA0 ∷ []
  pub twice_sounds : take 7 (trace_with (left_out false false 2) one_note 0 14) ≡ 0x68 ∷ 0x11 ∷ 0
      ∷ 0x08 ∷ 0x41 ∷ 0x09 ∷ 0xA0 ∷ []

-- At tick 0 between two patterns the pulse step can be left out. In a pattern of two rows the second is done at call
-- 13; in one of three rows the third is done six calls later. In patterns of one row it is left out at each row. Behind
-- rests with which a pattern begins it is done from their second on.
pub record FirstSkipsAreAsWorked : Type 0 where
  pub two_rows : from_call (number_with (first_left_out 1) rising_pulse 2) 12 3 ≡ 0x0840 ∷ 0x0840 ∷ 0x0850 ∷ []
  pub kept : from_call (number_with (left_out true true 1) rising_pulse 2) 12 3 ≡ 0x0830 ∷ 0x0840 ∷ 0x0850 ∷ []
  pub all : from_call (number_with (all_left_out 1) rising_pulse 2) 12 3 ≡ 0x0830 ∷ 0x0830 ∷ 0x0840 ∷ []
  pub third_to_come : from_call (number_with (first_left_out 1) (with_rows three_rows rising_pulse) 2) 12 3
      ≡ 0x0840 ∷ 0x0850 ∷ 0x0860 ∷ []
  pub third_done : from_call (number_with (first_left_out 1) (with_rows three_rows rising_pulse) 2) 18 3
      ≡ 0x08A0 ∷ 0x08A0 ∷ 0x08B0 ∷ []
  pub one_row : from_call (number_with (first_left_out 1) in_turn 2) 12 9
      ≡ 0x0840 ∷ 0x0840 ∷ 0x0850 ∷ 0x0860 ∷ 0x0870 ∷ 0x0880 ∷ 0x0890 ∷ 0x0890 ∷ 0x08A0 ∷ []
  pub rests_first : from_call (number_with (first_left_out 1) (with_rows late_note rising_pulse) 2) 23 9
      ≡ 0x0830 ∷ 0x0840 ∷ 0x0840 ∷ 0x0850 ∷ 0x0860 ∷ 0x0870 ∷ 0x0880 ∷ 0x0890 ∷ 0x08A0 ∷ []
  -- with a gateoff timer of 0 the row is fetched in that frame, after the pulse step; one of 1 is met a frame before,
  -- and one above the tempo never
  pub first_row_kept : from_call (number_with (first_left_out 1) (with_gate_timer 0 rising_pulse) 2) 12 3
      ≡ 0x0840 ∷ 0x0850 ∷ 0x0860 ∷ []
  pub second_row_left_out : from_call (number_with (first_left_out 1) (with_gate_timer 0 rising_pulse) 2) 18 3
      ≡ 0x08A0 ∷ 0x08A0 ∷ 0x08B0 ∷ []
  pub both_at_once : from_call (number_with (all_left_out 1) (with_gate_timer 0 rising_pulse) 2) 12 9
      ≡ 0x0840 ∷ 0x0840 ∷ 0x0850 ∷ 0x0860 ∷ 0x0870 ∷ 0x0880 ∷ 0x0890 ∷ 0x0890 ∷ 0x08A0 ∷ []
  pub timer_of_one : from_call (number_with (first_left_out 1) (with_gate_timer 1 rising_pulse) 2) 12 3
      ≡ 0x0840 ∷ 0x0840 ∷ 0x0850 ∷ []
  pub timer_never_met : from_call (number_with (first_left_out 1) never_fetched 2) 12 9
      ≡ 0x0840 ∷ 0x0840 ∷ 0x0850 ∷ 0x0860 ∷ 0x0870 ∷ 0x0880 ∷ 0x0890 ∷ 0x0890 ∷ 0x08A0 ∷ []
  -- at tempo 3; and with a funk value of 0, where the tick is loaded with 0
  pub quick : from_call (number_with (first_left_out 1) quick_turns 2) 8 7
      ≡ 0x0800 ∷ 0x0810 ∷ 0x0810 ∷ 0x0820 ∷ 0x0830 ∷ 0x0830 ∷ 0x0800 ∷ []
  pub loaded_with_0 : from_call (number_with (first_left_out 1) at_once_tempo 2) 13 4
      ≡ 0x0850 ∷ 0x0850 ∷ 0x0850 ∷ 0x0860 ∷ []
  -- a program's time rests too, and so does a row that sets the width; but no effect
  pub time_rests : from_call (number_with (first_left_out 1) short_pulse 2) 12 4
      ≡ 0x0840 ∷ 0x0840 ∷ 0x0850 ∷ 0x0850 ∷ []
  pub at_once : from_call (number_with (left_out false false 1) short_pulse 2) 12 4
      ≡ 0x0840 ∷ 0x0850 ∷ 0x0850 ∷ 0x0850 ∷ []
  pub set_rests : from_call (number_with (first_left_out 1) set_pulse 2) 12 4 ≡ 0x0840 ∷ 0x0840 ∷ 0x0A00 ∷ 0x0A10 ∷ []
  pub effect_done : from_call (number_with (first_left_out 1) rising_note 0) 13 3 ≡ 0x1178 ∷ 0x1188 ∷ 0x1198 ∷ []
  pub effect_left_out : from_call (number_with (all_left_out 1) rising_note 0) 13 3 ≡ 0x1168 ∷ 0x1178 ∷ 0x1188 ∷ []
  -- at the speeds 2 and 4
  pub twice : from_call (number_with (all_left_out 2) rising_pulse 2) 24 3 ≡ 0x0890 ∷ 0x0890 ∷ 0x08A0 ∷ []
  pub four_times : from_call (number_with (all_left_out 4) rising_pulse 2) 46 6
      ≡ 0x0940 ∷ 0x0940 ∷ 0x0950 ∷ 0x0950 ∷ 0x0960 ∷ 0x0970 ∷ []
