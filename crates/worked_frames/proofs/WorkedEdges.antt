-- What small songs leave in the registers, computed by the checker.
-- Written by bench/worked_frames.py.
use Rattle.std.proofs.Common.{true, false, refl}
use Rattle.song_model.specs.Walk.{prefix_of, cycle_of, played}
use Rattle.song_model.specs.LookUp.{playable_subtune, instrument_at, table_row, pattern_at}
use Rattle.play_model.specs.Freq.{freq, half_tone, slide}
use Rattle.play_model.specs.Helpers.{next_row, porta_up, porta_down, tone, vibrato, do_command}
use Rattle.play_model.specs.FilterStep.{filter_step}
use Rattle.play_model.specs.TickStep.{between_rows, note_started, row_command, at_row, tick_step}
use Rattle.play_model.specs.WaveStep.{wave_command, wave_step}
use Rattle.play_model.specs.EffectStep.{effect_step}
use Rattle.play_model.specs.PulseStep.{pulse_step}
use Rattle.play_model.specs.FetchRow.{fetch_row}
use Rattle.play_model.specs.Frame.{voice_step, voice_registers, filter_registers, frame_of}
use Rattle.play_model.specs.WorkedRuns.{left_out}
use Rattle.play_model.proofs.Laws.{calls_from, plays}
use Rattle.worked_frames.specs.WorkedEdges.{edge_134, edge_112, edge_76, edge_90, WorkedEdgesHold}

pub worked_edges_lem : WorkedEdgesHold
unfolding prefix_of cycle_of played playable_subtune instrument_at table_row pattern_at
    freq half_tone slide next_row porta_up porta_down tone vibrato do_command filter_step
    between_rows note_started row_command at_row tick_step wave_command wave_step effect_step
    pulse_step fetch_row voice_step voice_registers filter_registers frame_of calls_from
worked_edges_lem = record {
  edge_134_none_1 = plays (left_out false false 1) edge_134 0 _ refl;
  edge_134_pulse_4 = plays (left_out false true 4) edge_134 0 _ refl;
  edge_112_none_1 = plays (left_out false false 1) edge_112 0 _ refl;
  edge_112_both_2 = plays (left_out true true 2) edge_112 0 _ refl;
  edge_76_none_1 = plays (left_out false false 1) edge_76 0 _ refl;
  edge_76_both_3 = plays (left_out true true 3) edge_76 0 _ refl;
  edge_90_none_1 = plays (left_out false false 1) edge_90 0 _ refl;
  edge_90_effects_3 = plays (left_out true false 3) edge_90 0 _ refl;
}
