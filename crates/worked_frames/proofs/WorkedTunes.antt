-- What small songs leave in the registers, computed by the checker.
-- Written by bench/worked_frames.py.
use Rattle.std.proofs.Common.{true, false, refl}
use Rattle.song_model.specs.Walk.{prefix_of, cycle_of, played}
use Rattle.song_model.specs.LookUp.{playable_subtune, instrument_at, table_row, pattern_at}
use Rattle.play_model.specs.Freq.{freq, half_tone, slide}
use Rattle.play_model.specs.Helpers.{next_row, porta_up, porta_down, tone, vibrato, do_command}
use Rattle.play_model.specs.FilterStep.{filter_step}
use Rattle.play_model.specs.TickStep.{between_rows, note_started, row_command, at_row, tick_step}
use Rattle.play_model.specs.WaveStep.{wave_command, wave_step}
use Rattle.play_model.specs.EffectStep.{effect_step}
use Rattle.play_model.specs.PulseStep.{pulse_step}
use Rattle.play_model.specs.FetchRow.{fetch_row}
use Rattle.play_model.specs.Frame.{voice_step, voice_registers, filter_registers, frame_of}
use Rattle.play_model.specs.WorkedRuns.{left_out}
use Rattle.play_model.proofs.Laws.{calls_from, plays}
use Rattle.worked_frames.specs.WorkedTunes.{small_42, small_37, small_21, exactslide, WorkedTunesHold}

pub worked_tunes_lem : WorkedTunesHold
unfolding prefix_of cycle_of played playable_subtune instrument_at table_row pattern_at
    freq half_tone slide next_row porta_up porta_down tone vibrato do_command filter_step
    between_rows note_started row_command at_row tick_step wave_command wave_step effect_step
    pulse_step fetch_row voice_step voice_registers filter_registers frame_of calls_from
worked_tunes_lem = record {
  small_42_none_1 = plays (left_out false false 1) small_42 0 _ refl;
  small_42_effects_3 = plays (left_out true false 3) small_42 0 _ refl;
  small_37_none_1 = plays (left_out false false 1) small_37 0 _ refl;
  small_37_effects_4 = plays (left_out true false 4) small_37 0 _ refl;
  small_21_none_1 = plays (left_out false false 1) small_21 0 _ refl;
  small_21_both_2 = plays (left_out true true 2) small_21 0 _ refl;
  exactslide_none_1 = plays (left_out false false 1) exactslide 0 _ refl;
  exactslide_both_4 = plays (left_out true true 4) exactslide 0 _ refl;
}
