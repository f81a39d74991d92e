-- A vibrato whose period is one less than the longest, computed by the checker.
use Rattle.std.proofs.Common.{◌≡◌, false, refl, sym, ◌∙◌}
use Rattle.song_model.specs.Walk.{prefix_of, cycle_of, played}
use Rattle.song_model.specs.LookUp.{playable_subtune, instrument_at, table_row, pattern_at}
use Rattle.play_model.specs.Freq.{freq, half_tone, slide}
use Rattle.play_model.specs.Helpers.{next_row, porta_up, porta_down, tone, vibrato, do_command}
use Rattle.play_model.specs.FilterStep.{filter_step}
use Rattle.play_model.specs.TickStep.{between_rows, note_started, row_command, at_row, tick_step}
use Rattle.play_model.specs.WaveStep.{wave_command, wave_step}
use Rattle.play_model.specs.EffectStep.{effect_step}
use Rattle.play_model.specs.PulseStep.{pulse_step}
use Rattle.play_model.specs.FetchRow.{fetch_row}
use Rattle.play_model.specs.Frame.{voice_step, voice_registers, filter_registers, frame_of, state_after_with}
use Rattle.play_model.specs.State.{start_state}
use Rattle.play_model.specs.WorkedRuns.{left_out}
use Rattle.worked_frames.specs.WorkedLongPulses.{period_127}
use Rattle.worked_frames.specs.WorkedPeriods.{period_126, WorkedPeriodsHold}
use Rattle.play_model.proofs.Laws.{calls_from, calls_are_traced}

same_calls : calls_from (left_out false false 1) period_126 0 180 (start_state (left_out false false 1))
    ≡ calls_from (left_out false false 1) period_127 0 180 (start_state (left_out false false 1))
unfolding prefix_of cycle_of played playable_subtune instrument_at table_row pattern_at
    freq half_tone slide next_row porta_up porta_down tone vibrato do_command filter_step
    between_rows note_started row_command at_row tick_step wave_command wave_step effect_step
    pulse_step fetch_row voice_step voice_registers filter_registers frame_of calls_from
same_calls = refl

pub worked_periods_lem : WorkedPeriodsHold
unfolding state_after_with
worked_periods_lem = record {
  alike =
      calls_are_traced (left_out false false 1) period_126 0 0 180
      ∙ same_calls
      ∙ sym (calls_are_traced (left_out false false 1) period_127 0 0 180);
}
