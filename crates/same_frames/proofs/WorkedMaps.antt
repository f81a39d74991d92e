-- A small song and the same song with other numbers, computed by the checker.
use Rattle.std.proofs.Common.{◌≡◌, refl, arith}
use Rattle.song_model.specs.Walk.{prefix_of, cycle_of, played}
use Rattle.song_model.specs.LookUp.{playable_subtune, instrument_at, table_row, pattern_at}
use Rattle.play_model.specs.Freq.{freq, half_tone, slide}
use Rattle.play_model.specs.Helpers.{next_row, porta_up, porta_down, tone, vibrato, do_command}
use Rattle.play_model.specs.FilterStep.{filter_step}
use Rattle.play_model.specs.TickStep.{between_rows, note_started, row_command, at_row, tick_step}
use Rattle.play_model.specs.WaveStep.{wave_command, wave_step}
use Rattle.play_model.specs.EffectStep.{effect_step}
use Rattle.play_model.specs.PulseStep.{pulse_step}
use Rattle.play_model.specs.FetchRow.{fetch_row}
use Rattle.play_model.specs.Frame.{voice_step, voice_registers, filter_registers, frame_of, state_after_with}
use Rattle.same_frames.specs.WorkedMaps.{frames_from, RowsAreMoved, RowsAreFound, InstrumentsAreMoved, OrdersAreMoved}
use Rattle.same_frames.specs.WorkedMaps.{PatternsStandFor, FramesAreAsWorked, NumbersAreAsWorked}

rows_moved : RowsAreMoved
rows_moved = record { wave = refl; pulse = refl; filter = refl; speed = refl }

rows_found : RowsAreFound
unfolding table_row
rows_found = record { wave = refl; pulse = refl; filter = refl; speed = refl }

instruments_moved : InstrumentsAreMoved
unfolding instrument_at
instruments_moved = record { first = refl; last = refl }

orders_moved : OrdersAreMoved
orders_moved = record { pattern = refl; repeat = refl }

patterns_stand_for : PatternsStandFor
patterns_stand_for = record {
  normal = record {
    each = (
      record { note = refl; instrument = refl; command = refl; param = λ some. absurd (some refl) },
      (
        record { note = refl; instrument = refl; command = refl; param = λ some. refl },
        (
          record { note = refl; instrument = refl; command = refl; param = λ some. refl },
          (record { note = refl; instrument = refl; command = refl; param = λ some. refl }, tt),
        ),
      ),
    );
  };
  again = record {
    each = (
      record { note = refl; instrument = refl; command = refl; param = λ some. absurd (some refl) },
      (
        record { note = refl; instrument = refl; command = refl; param = λ some. refl },
        (
          record { note = refl; instrument = refl; command = refl; param = λ some. refl },
          (record { note = refl; instrument = refl; command = refl; param = λ some. refl }, tt),
        ),
      ),
    );
  };
  left_out = λ h. let e : 1 ≡ 2 = h.each.1.1.1.0.instrument in omega arith;
  other = λ h. let e : 3 ≡ 2 = h.each.1.1.1.0.instrument in omega arith;
  speed = λ h. let e : 2 ≡ 1 = h.each.1.0.param (λ z. omega arith) in omega arith;
}

frames_are : FramesAreAsWorked
unfolding prefix_of cycle_of played playable_subtune instrument_at table_row pattern_at
    freq half_tone slide next_row porta_up porta_down tone vibrato do_command filter_step
    between_rows note_started row_command at_row tick_step wave_command wave_step effect_step
    pulse_step fetch_row voice_step voice_registers filter_registers frame_of state_after_with frames_from
frames_are = record { registers = refl; with_options = refl; voice = refl }

pub numbers_are_as_worked_lem : NumbersAreAsWorked
numbers_are_as_worked_lem = record {
  rows = rows_moved;
  found = rows_found;
  instruments = instruments_moved;
  orders = orders_moved;
  patterns = patterns_stand_for;
  frames = frames_are;
}
