-- What small songs leave in the registers, computed by the checker.
-- Written by bench/worked_frames.py.
use Rattle.std.proofs.Common.{true, false, refl}
use Rattle.song_model.specs.Walk.{prefix_of, cycle_of, played}
use Rattle.song_model.specs.LookUp.{playable_subtune, instrument_at, table_row, pattern_at}
use Rattle.play_model.specs.Freq.{freq, half_tone, slide}
use Rattle.play_model.specs.Helpers.{next_row, porta_up, porta_down, tone, vibrato, do_command}
use Rattle.play_model.specs.FilterStep.{filter_step}
use Rattle.play_model.specs.TickStep.{between_rows, note_started, row_command, at_row, tick_step}
use Rattle.play_model.specs.WaveStep.{wave_command, wave_step}
use Rattle.play_model.specs.EffectStep.{effect_step}
use Rattle.play_model.specs.PulseStep.{pulse_step}
use Rattle.play_model.specs.FetchRow.{fetch_row}
use Rattle.play_model.specs.Frame.{voice_step, voice_registers, filter_registers, frame_of}
use Rattle.play_model.specs.WorkedRuns.{left_out}
use Rattle.play_model.proofs.Laws.{calls_from, plays}
use Rattle.worked_frames.specs.WorkedLongPulses.{edge_68, rich_39sub_1, rich_19sub_4, period_127, WorkedLongPulsesHold}

pub worked_long_pulses_lem : WorkedLongPulsesHold
unfolding prefix_of cycle_of played playable_subtune instrument_at table_row pattern_at
    freq half_tone slide next_row porta_up porta_down tone vibrato do_command filter_step
    between_rows note_started row_command at_row tick_step wave_command wave_step effect_step
    pulse_step fetch_row voice_step voice_registers filter_registers frame_of calls_from
worked_long_pulses_lem = record {
  edge_68_none_1 = plays (left_out false false 1) edge_68 0 _ refl;
  edge_68_pulse_2 = plays (left_out false true 2) edge_68 0 _ refl;
  rich_39sub_1_none_1 = plays (left_out false false 1) rich_39sub_1 0 _ refl;
  rich_39sub_1_pulse_3 = plays (left_out false true 3) rich_39sub_1 0 _ refl;
  rich_19sub_4_none_1 = plays (left_out false false 1) rich_19sub_4 3 _ refl;
  rich_19sub_4_pulse_4 = plays (left_out false true 4) rich_19sub_4 3 _ refl;
  period_127_none_1 = plays (left_out false false 1) period_127 0 _ refl;
}
