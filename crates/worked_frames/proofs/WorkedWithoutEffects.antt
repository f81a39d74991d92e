-- What small songs leave in the registers, computed by the checker.
-- Written by bench/worked_frames.py.
use Rattle.std.proofs.Common.{true, false, refl}
use Rattle.song_model.specs.Walk.{prefix_of, cycle_of, played}
use Rattle.song_model.specs.LookUp.{playable_subtune, instrument_at, table_row, pattern_at}
use Rattle.play_model.specs.Freq.{freq, half_tone, slide}
use Rattle.play_model.specs.Helpers.{next_row, porta_up, porta_down, tone, vibrato, do_command}
use Rattle.play_model.specs.FilterStep.{filter_step}
use Rattle.play_model.specs.TickStep.{between_rows, note_started, row_command, at_row, tick_step}
use Rattle.play_model.specs.WaveStep.{wave_command, wave_step}
use Rattle.play_model.specs.EffectStep.{effect_step}
use Rattle.play_model.specs.PulseStep.{pulse_step}
use Rattle.play_model.specs.FetchRow.{fetch_row}
use Rattle.play_model.specs.Frame.{voice_step, voice_registers, filter_registers, frame_of}
use Rattle.play_model.specs.WorkedRuns.{left_out}
use Rattle.play_model.proofs.Laws.{calls_from, plays}
use Rattle.worked_frames.specs.WorkedWithoutEffects.{small_4, small_40, small_43, small_13, rich_5sub_1, rich_46sub_1}
use Rattle.worked_frames.specs.WorkedWithoutEffects.{WorkedWithoutEffectsHold}

pub worked_without_effects_lem : WorkedWithoutEffectsHold
unfolding prefix_of cycle_of played playable_subtune instrument_at table_row pattern_at
    freq half_tone slide next_row porta_up porta_down tone vibrato do_command filter_step
    between_rows note_started row_command at_row tick_step wave_command wave_step effect_step
    pulse_step fetch_row voice_step voice_registers filter_registers frame_of calls_from
worked_without_effects_lem = record {
  small_4_none_1 = plays (left_out false false 1) small_4 0 _ refl;
  small_4_effects_2 = plays (left_out true false 2) small_4 0 _ refl;
  small_40_none_1 = plays (left_out false false 1) small_40 0 _ refl;
  small_40_effects_4 = plays (left_out true false 4) small_40 0 _ refl;
  small_43_none_1 = plays (left_out false false 1) small_43 0 _ refl;
  small_43_effects_3 = plays (left_out true false 3) small_43 0 _ refl;
  small_13_none_1 = plays (left_out false false 1) small_13 0 _ refl;
  small_13_effects_2 = plays (left_out true false 2) small_13 0 _ refl;
  rich_5sub_1_none_1 = plays (left_out false false 1) rich_5sub_1 0 _ refl;
  rich_5sub_1_effects_2 = plays (left_out true false 2) rich_5sub_1 0 _ refl;
  rich_46sub_1_none_1 = plays (left_out false false 1) rich_46sub_1 0 _ refl;
  rich_46sub_1_effects_2 = plays (left_out true false 2) rich_46sub_1 0 _ refl;
}
