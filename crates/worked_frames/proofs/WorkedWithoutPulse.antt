-- What small songs leave in the registers, computed by the checker.
-- Written by bench/worked_frames.py.
use Rattle.std.proofs.Common.{true, false, refl}
use Rattle.song_model.specs.Walk.{prefix_of, cycle_of, played}
use Rattle.song_model.specs.LookUp.{playable_subtune, instrument_at, table_row, pattern_at}
use Rattle.play_model.specs.Freq.{freq, half_tone, slide}
use Rattle.play_model.specs.Helpers.{next_row, porta_up, porta_down, tone, vibrato, do_command}
use Rattle.play_model.specs.FilterStep.{filter_step}
use Rattle.play_model.specs.TickStep.{between_rows, note_started, row_command, at_row, tick_step}
use Rattle.play_model.specs.WaveStep.{wave_command, wave_step}
use Rattle.play_model.specs.EffectStep.{effect_step}
use Rattle.play_model.specs.PulseStep.{pulse_step}
use Rattle.play_model.specs.FetchRow.{fetch_row}
use Rattle.play_model.specs.Frame.{voice_step, voice_registers, filter_registers, frame_of}
use Rattle.play_model.specs.WorkedRuns.{left_out}
use Rattle.play_model.proofs.Laws.{calls_from, plays}
use Rattle.worked_frames.specs.WorkedWithoutPulse.{small_14, small_41, small_34, small_24, small_32, small_6, WorkedWithoutPulseHold}

pub worked_without_pulse_lem : WorkedWithoutPulseHold
unfolding prefix_of cycle_of played playable_subtune instrument_at table_row pattern_at
    freq half_tone slide next_row porta_up porta_down tone vibrato do_command filter_step
    between_rows note_started row_command at_row tick_step wave_command wave_step effect_step
    pulse_step fetch_row voice_step voice_registers filter_registers frame_of calls_from
worked_without_pulse_lem = record {
  small_14_none_1 = plays (left_out false false 1) small_14 0 _ refl;
  small_14_pulse_4 = plays (left_out false true 4) small_14 0 _ refl;
  small_41_none_1 = plays (left_out false false 1) small_41 0 _ refl;
  small_41_pulse_3 = plays (left_out false true 3) small_41 0 _ refl;
  small_34_none_1 = plays (left_out false false 1) small_34 0 _ refl;
  small_34_pulse_1 = plays (left_out false true 1) small_34 0 _ refl;
  small_24_none_1 = plays (left_out false false 1) small_24 0 _ refl;
  small_24_pulse_2 = plays (left_out false true 2) small_24 0 _ refl;
  small_32_none_1 = plays (left_out false false 1) small_32 0 _ refl;
  small_32_pulse_1 = plays (left_out false true 1) small_32 0 _ refl;
  small_6_none_1 = plays (left_out false false 1) small_6 0 _ refl;
  small_6_pulse_4 = plays (left_out false true 4) small_6 0 _ refl;
}
