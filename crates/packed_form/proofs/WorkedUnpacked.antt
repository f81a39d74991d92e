-- A packed song read as a song, worked out by hand.
use Rattle.std.proofs.Common.{◌≡◌, [], ◌∷◌, ◌++◌, replicate, refl}
use Rattle.song_model.specs.Walk.{prefix_of, cycle_of, played}
use Rattle.song_model.specs.LookUp.{playable_subtune, instrument_at, table_row, pattern_at}
use Rattle.play_model.specs.Helpers.{next_row}
use Rattle.play_model.specs.FilterStep.{filter_step}
use Rattle.play_model.specs.TickStep.{between_rows, note_started, row_command, at_row, tick_step}
use Rattle.play_model.specs.WaveStep.{wave_step}
use Rattle.play_model.specs.EffectStep.{effect_step}
use Rattle.play_model.specs.PulseStep.{pulse_step}
use Rattle.play_model.specs.FetchRow.{fetch_row}
use Rattle.play_model.specs.Frame.{voice_step, voice_registers, filter_registers, frame_of, frame_with}
use Rattle.play_model.specs.State.{no_options, start_state}
use Rattle.play_model.specs.WorkedSongs.{one_note}
use Rattle.packed_form.specs.Unpacked.{unpacked_pattern}
use Rattle.packed_form.specs.WorkedUnpacked.{PackedNotesAreUnpacked}

first_frame : (frame_with no_options one_note 0 (start_state no_options)).registers ≡ replicate 24 0 ++ 0x0F ∷ []
unfolding prefix_of cycle_of played playable_subtune instrument_at table_row pattern_at next_row filter_step between_rows note_started row_command at_row tick_step wave_step effect_step pulse_step fetch_row voice_step voice_registers filter_registers frame_of
first_frame = refl

pub packed_notes_are_unpacked : PackedNotesAreUnpacked
unfolding unpacked_pattern
packed_notes_are_unpacked packed is = record {
  song = rw (is.subtunes, is.patterns, is.instruments, is.wave, is.pulse, is.filter, is.speed) refl;
  frame = rw (is.subtunes, is.patterns, is.instruments, is.wave, is.pulse, is.filter, is.speed) first_frame;
  size = rw (is.subtunes, is.patterns, is.instruments, is.wave, is.pulse, is.filter, is.speed) refl;
}
