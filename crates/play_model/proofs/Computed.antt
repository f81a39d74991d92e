-- The frames of the small songs, computed by the checker.
use Rattle.std.proofs.Common.{◌≡◌, ℕ, zero, suc, List, [], ◌∷◌, length, map, replicate, refl, ap}
use Rattle.std.proofs.Common.{◌∙◌, add-one}
use Rattle.song_model.specs.Walk.{prefix_of, cycle_of, played}
use Rattle.song_model.specs.LookUp.{playable_subtune, instrument_at, table_row, pattern_at}
use Rattle.play_model.specs.Freq.{freq, half_tone, slide}
use Rattle.play_model.specs.Helpers.{next_row, porta_up, porta_down, tone, vibrato, do_command}
use Rattle.play_model.specs.FilterStep.{filter_step}
use Rattle.play_model.specs.TickStep.{between_rows, note_started, row_command, at_row, tick_step}
use Rattle.play_model.specs.WaveStep.{wave_command, wave_step}
use Rattle.play_model.specs.EffectStep.{effect_step}
use Rattle.play_model.specs.PulseStep.{pulse_step}
use Rattle.play_model.specs.FetchRow.{fetch_row}
use Rattle.play_model.specs.Frame.{voice_step, voice_registers, filter_registers, frame_of, frame_with}
use Rattle.play_model.specs.Frame.{state_after_with, trace_with, trace}
use Rattle.song_model.specs.declared.songs.Song.{Song}
use Rattle.play_model.specs.declared.options.Options.{Options}
use Rattle.play_model.specs.State.{FrameState, no_options, start_state}
use Rattle.play_model.specs.WorkedSongs.{one_note, with_gate_timer}
use Rattle.play_model.specs.WorkedRuns.{silent_registers, from_call, digits, Plays}
use Rattle.play_model.specs.WorkedFrames.{OneNoteSounds, LowNoteIsMute, VibratoWraps, SlideStops, FunkTempoWraps}
use Rattle.play_model.specs.WorkedFrames.{LongFunkTempoIsCut, GateTimerBits, LongTimerIsNeverMet, WaveProgramWaits}
use Rattle.play_model.specs.WorkedFrames.{VibratoChangesAlone, FilterFollows, OptionsAreAsWorked, FirstSkipsAreAsWorked}

pub one_note_sounds_lem : OneNoteSounds
unfolding prefix_of cycle_of played playable_subtune instrument_at table_row pattern_at freq half_tone slide next_row porta_up porta_down tone vibrato do_command filter_step between_rows note_started row_command at_row tick_step wave_command wave_step effect_step pulse_step fetch_row voice_step voice_registers filter_registers frame_of state_after_with trace
one_note_sounds_lem =
    record { silent = refl; fetched = refl; started = refl; sounds = refl; released = refl; again = refl }

pub low_note_is_mute_lem : LowNoteIsMute
unfolding prefix_of cycle_of played playable_subtune instrument_at table_row pattern_at freq half_tone slide next_row porta_up porta_down tone vibrato do_command filter_step between_rows note_started row_command at_row tick_step wave_command wave_step effect_step pulse_step fetch_row voice_step voice_registers filter_registers frame_of state_after_with trace
low_note_is_mute_lem = record { note = refl; sounds = refl }

pub vibrato_wraps_lem : VibratoWraps
unfolding prefix_of cycle_of played playable_subtune instrument_at table_row pattern_at freq half_tone slide next_row porta_up porta_down tone vibrato do_command filter_step between_rows note_started row_command at_row tick_step wave_command wave_step effect_step pulse_step fetch_row voice_step voice_registers filter_registers frame_of state_after_with trace
vibrato_wraps_lem = refl

pub slide_stops_lem : SlideStops
unfolding prefix_of cycle_of played playable_subtune instrument_at table_row pattern_at freq half_tone slide next_row porta_up porta_down tone vibrato do_command filter_step between_rows note_started row_command at_row tick_step wave_command wave_step effect_step pulse_step fetch_row voice_step voice_registers filter_registers frame_of state_after_with trace
slide_stops_lem = record { slides = refl; tied = refl }

pub funk_tempo_wraps_lem : FunkTempoWraps
unfolding prefix_of cycle_of played playable_subtune instrument_at table_row pattern_at freq half_tone slide next_row porta_up porta_down tone vibrato do_command filter_step between_rows note_started row_command at_row tick_step wave_command wave_step effect_step pulse_step fetch_row voice_step voice_registers filter_registers frame_of state_after_with trace
funk_tempo_wraps_lem = record { one = refl; two = refl; alike = refl }

pub long_funk_tempo_is_cut_lem : LongFunkTempoIsCut
unfolding prefix_of cycle_of played playable_subtune instrument_at table_row pattern_at freq half_tone slide next_row porta_up porta_down tone vibrato do_command filter_step between_rows note_started row_command at_row tick_step wave_command wave_step effect_step pulse_step fetch_row voice_step voice_registers filter_registers frame_of state_after_with trace
long_funk_tempo_is_cut_lem = record { cut = refl; kept = refl }

pub gate_timer_bits_lem : GateTimerBits
unfolding prefix_of cycle_of played playable_subtune instrument_at table_row pattern_at freq half_tone slide next_row porta_up porta_down tone vibrato do_command filter_step between_rows note_started row_command at_row tick_step wave_command wave_step effect_step pulse_step fetch_row voice_step voice_registers filter_registers frame_of state_after_with trace
gate_timer_bits_lem = record { neither = refl; gate_kept = refl; envelope_kept = refl }

pub wave_program_waits_lem : WaveProgramWaits
unfolding prefix_of cycle_of played playable_subtune instrument_at table_row pattern_at freq half_tone slide next_row porta_up porta_down tone vibrato do_command filter_step between_rows note_started row_command at_row tick_step wave_command wave_step effect_step pulse_step fetch_row voice_step voice_registers filter_registers frame_of state_after_with trace
wave_program_waits_lem = refl

pub vibrato_changes_alone_lem : VibratoChangesAlone
unfolding prefix_of cycle_of played playable_subtune instrument_at table_row pattern_at freq half_tone slide next_row porta_up porta_down tone vibrato do_command filter_step between_rows note_started row_command at_row tick_step wave_command wave_step effect_step pulse_step fetch_row voice_step voice_registers filter_registers frame_of state_after_with trace
vibrato_changes_alone_lem = record { before = refl; after = refl; delayed = refl }

pub filter_follows_lem : FilterFollows
unfolding prefix_of cycle_of played playable_subtune instrument_at table_row pattern_at freq half_tone slide next_row porta_up porta_down tone vibrato do_command filter_step between_rows note_started row_command at_row tick_step wave_command wave_step effect_step pulse_step fetch_row voice_step voice_registers filter_registers frame_of state_after_with trace
filter_follows_lem = record { set = refl; slides = refl }

pub options_are_as_worked_lem : OptionsAreAsWorked
unfolding prefix_of cycle_of played playable_subtune instrument_at table_row pattern_at freq half_tone slide next_row porta_up porta_down tone vibrato do_command filter_step between_rows note_started row_command at_row tick_step wave_command wave_step effect_step pulse_step fetch_row voice_step voice_registers filter_registers frame_of state_after_with
options_are_as_worked_lem = record {
  each_effect = refl;
  fewer_effects = refl;
  each_pulse = refl;
  fewer_pulses = refl;
  twice_fetched = refl;
  twice_started = refl;
  twice_sounds = refl;
}

pub first_skips_are_as_worked_lem : FirstSkipsAreAsWorked
unfolding prefix_of cycle_of played playable_subtune instrument_at table_row pattern_at freq half_tone slide next_row porta_up porta_down tone vibrato do_command filter_step between_rows note_started row_command at_row tick_step wave_command wave_step effect_step pulse_step fetch_row voice_step voice_registers filter_registers frame_of state_after_with
first_skips_are_as_worked_lem = record {
  two_rows = refl;
  kept = refl;
  all = refl;
  third_to_come = refl;
  third_done = refl;
  one_row = refl;
  rests_first = refl;
  first_row_kept = refl;
  second_row_left_out = refl;
  both_at_once = refl;
  timer_of_one = refl;
  timer_never_met = refl;
  quick = refl;
  loaded_with_0 = refl;
  time_rests = refl;
  at_once = refl;
  set_rests = refl;
  effect_done = refl;
  effect_left_out = refl;
  twice = refl;
  four_times = refl;
}

-- the registers of n calls in one go, which doesn't begin anew for each call
unfoldable pub calls_from : Options → Song → ℕ → ℕ → FrameState → List (List ℕ)
calls_from o song k zero x = []
calls_from o song k (suc n) x = let f = frame_with o song k x in f.registers ∷ calls_from o song k n f.state

pub calls_are_traced : (o : Options) (song : Song) (k m n : ℕ) →
    from_call (trace_with o song k) (suc m) n ≡ calls_from o song k n (state_after_with o song k m)
unfolding calls_from state_after_with
calls_are_traced o song k m zero = refl
calls_are_traced o song k m (suc n) =
    rw (add-one (suc m))
    (ap (λ calls. (frame_with o song k (state_after_with o song k m)).registers ∷ calls)
    (calls_are_traced o song k (suc m) n))

-- so a run's registers are those of its calls
pub plays : (o : Options) (song : Song) (k : ℕ) (lines : List ℕ) →
    calls_from o song k (length lines) (start_state o) ≡ map (digits 25) lines → Plays o song k lines
unfolding state_after_with
plays o song k lines h = record { registers = calls_are_traced o song k 0 (length lines) ∙ h }

long_run : calls_from no_options (with_gate_timer 0x3F one_note) 0 300 (start_state no_options)
    ≡ replicate 300 silent_registers
unfolding prefix_of cycle_of played playable_subtune instrument_at table_row pattern_at freq half_tone slide next_row porta_up porta_down tone vibrato do_command filter_step between_rows note_started row_command at_row tick_step wave_command wave_step effect_step pulse_step fetch_row voice_step voice_registers filter_registers frame_of calls_from
long_run = refl

pub long_timer_is_never_met_lem : LongTimerIsNeverMet
unfolding state_after_with trace
long_timer_is_never_met_lem = calls_are_traced no_options (with_gate_timer 0x3F one_note) 0 0 300 ∙ long_run
