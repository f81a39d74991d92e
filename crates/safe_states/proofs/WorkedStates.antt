-- What a voice of a playable song keeps, at the edges of its ranges.
use Rattle.std.proofs.Common.{◌≡◌, ℕ, zero, suc, ◌≤◌, true, false, [], ◌∷◌, All}
use Rattle.std.proofs.Common.{inl, inr, refl, sym, ap, ◌∙◌, arith}
use Rattle.std.proofs.lemmas.Bool.{both_ways}
use Rattle.std.proofs.lemmas.List.Elements.{All-nil, All-cons, All-contains}
use Rattle.song_model.specs.declared.rows.Row.{Row}
use Rattle.song_model.specs.declared.tables.TableName.{TableName}
use Rattle.song_model.specs.declared.tables.TableName.TheVariants.{Wave, Pulse}
use Rattle.song_model.specs.Walk.{prefix_of, cycle_of, played}
use Rattle.song_model.specs.LookUp.{instrument_at, table_row, pattern_at}
use Rattle.song_model.specs.Pointers.{instrument_pointer}
use Rattle.song_model.specs.Silence.{rest_row}
use Rattle.play_model.specs.Used.{IsUsedRow, IsUsedInstrument}
use Rattle.play_model.specs.Features.{HasInstrument}
use Rattle.play_model.specs.Reached.{IsStep, is_jump, of_instrument as names_program, played as reached_by}
use Rattle.play_model.specs.Safe.{IsSafePointer, HasCommand, IsSafeWaiting, IsSafeRunning, IsSafeVoice}
use Rattle.play_model.specs.Safe.{none, of_instrument, of_row}
use Rattle.play_model.specs.WorkedSongs.{row, one_note}
use Rattle.safe_states.specs.WorkedStates.{NotesAreWorked, NewNotesAreWorked, WaitsAreWorked, ProgramWaitsAreWorked}
use Rattle.safe_states.specs.WorkedStates.{its_order, sounding, VoicesAreWorked, StatesAreWorked}

notes : NotesAreWorked
notes = record {
  low = inr (omega arith, omega arith);
  below_none = inr (omega arith, omega arith);
  none = inl (omega arith);
  high = inl (omega arith);
  too_low = λ is. elim is [
    | inl most ↦ omega (arith, most)
    | inr range ↦ (let least = range.0 in omega (arith, least))
  ];
  too_high = λ is. elim is [
    | inl most ↦ omega (arith, most)
    | inr range ↦ (let least = range.0 in omega (arith, least))
  ];
  no_byte = λ is. elim is [
    | inl most ↦ omega (arith, most)
    | inr range ↦ (let most = range.1 in omega (arith, most))
  ];
}

new_notes : NewNotesAreWorked
new_notes = record {
  none = inl refl;
  low = inr (omega arith, omega arith);
  high = inr (omega arith, omega arith);
  too_low = λ is. elim is [
    | inl e ↦ omega (arith, e)
    | inr range ↦ (let least = range.0 in omega (arith, least))
  ];
  too_high = λ is. elim is [
    | inl e ↦ omega (arith, e)
    | inr range ↦ (let most = range.1 in omega (arith, most))
  ];
}

waits : WaitsAreWorked
waits = record {
  begun = record { delay = λ short. omega arith; other = λ long. absurd (omega (arith, long)) };
  through = record { delay = λ short. omega arith; other = λ long. absurd (omega (arith, long)) };
  too_long = λ has. (let most = has.delay (omega arith) in omega (arith, most));
  at_once = record { delay = λ short. absurd (omega (arith, short)); other = λ long. refl };
  no_delay = λ has. (let e = has.other (omega arith) in omega (arith, e));
}

program_waits : ProgramWaitsAreWorked
unfolding table_row
program_waits = record {
  stopped = λ time on. absurd (on refl);
  at_once = λ on. record { delay = λ short. absurd (omega (arith, short)); other = λ long. refl };
  no_delay = λ waited. (let e = (waited (λ e. omega (arith, e))).other (omega arith) in omega (arith, e));
  through = λ on. waits.through;
  too_long = λ waited. waits.too_long (waited (λ e. omega (arith, e)));
}

-- the first row of a program of the voice's instrument
first_step : (name : TableName) → instrument_pointer name (instrument_at one_note 1) ≡ 1 →
    is_jump name (table_row one_note name 1) ≡ false → IsStep one_note name 1
first_step name points goes = record {
  reached = reached_by (names_program 1 (inl refl) points (λ e. omega (arith, e)));
  no_jump = goes;
}

-- a program is on no jump
off_jump : (name : TableName) → is_jump name (table_row one_note name 2) ≡ true → ¬ IsSafePointer one_note name 2
off_jump name jumps (inl stopped) = omega (arith, stopped)
off_jump name jumps (inr on) = both_ways (is_jump name (table_row one_note name 2)) on.no_jump jumps

safe : IsSafeVoice one_note its_order sounding
unfolding prefix_of cycle_of played instrument_at table_row pattern_at
safe = record {
  instrument = inl refl;
  note = inl (omega arith);
  new_note = inl refl;
  wave = inr (first_step Wave refl refl);
  wave_time = λ on. record { delay = λ short. omega arith; other = λ long. refl };
  pulse = inr (first_step Pulse refl refl);
  pulse_time = λ on runs. absurd (runs refl);
  waiting = none;
  running = none;
  delay = λ some. absurd (some refl);
  row = omega arith;
}

-- a row names no instrument but the first, and has no command
record IsPlain (row : Row) : Type 0 where
  instrument : row.instrument ≤ 1
  command : row.command ≡ 0

rows_plain : (n : ℕ) → All IsPlain (pattern_at one_note n)
unfolding pattern_at
rows_plain zero =
    All-cons IsPlain (row 0x90 1 0 0) (row 0xBE 0 0 0 ∷ []) (record { instrument = omega arith; command = refl })
    (All-cons IsPlain (row 0xBE 0 0 0) [] (record { instrument = omega arith; command = refl }) (All-nil IsPlain))
rows_plain (suc zero) =
    All-cons IsPlain rest_row [] (record { instrument = omega arith; command = refl }) (All-nil IsPlain)
rows_plain (suc (suc n)) = All-nil IsPlain

used_plain : {row : Row} → IsUsedRow one_note row → IsPlain row
used_plain {row} used =
    All-contains IsPlain (pattern_at one_note used.pattern) row (rows_plain used.pattern) used.has

only_first : (i : ℕ) → IsUsedInstrument one_note i → i ≡ 1
only_first i (inl first) = first
only_first i (inr named) =
    let most = (used_plain named.used).instrument in
    let names = named.names in
    let some = named.some in grind (arith, most, names, some)

no_command : {command param : ℕ} → HasCommand one_note command param → command ≡ 0
no_command has = sym has.command_is ∙ (used_plain has.used).command

none_waits : {command : ℕ} → IsSafeWaiting one_note command 0 → command ≡ 0
none_waits none = refl
none_waits (of_row has) = no_command has

none_runs : {command param : ℕ} → IsSafeRunning one_note command param → command ≡ 0
none_runs none = refl
none_runs (of_instrument i used) = refl
none_runs (of_row least most has) = no_command has

no_delay : ¬ HasInstrument one_note (λ i. (instrument_at one_note i).vibrato_delay)
unfolding instrument_at
no_delay has =
    has.some (ap (λ i. (instrument_at one_note i).vibrato_delay) (only_first has.instrument has.used))

voices : VoicesAreWorked
unfolding prefix_of cycle_of played table_row pattern_at
voices = record {
  safe = safe;
  instrument = λ is. (let e = only_first 2 is.instrument in omega (arith, e));
  note = λ is. notes.too_high is.note;
  new_note = λ is. elim is.new_note [
    | inl e ↦ omega (arith, e)
    | inr range ↦ (let least = range.0 in omega (arith, least))
  ];
  wave = λ is. off_jump Wave refl is.wave;
  wave_time = λ is. (let e = (is.wave_time (λ e. omega (arith, e))).other (omega arith) in omega (arith, e));
  pulse = λ is. off_jump Pulse refl is.pulse;
  pulse_time = λ is.
      (let most = (is.pulse_time (λ e. omega (arith, e)) (λ e. omega (arith, e))).most in omega (arith, most));
  waiting = λ is. (let e = none_waits is.waiting in omega (arith, e));
  running = λ is. (let e = none_runs is.running in omega (arith, e));
  delay = λ is. no_delay (is.delay (λ e. omega (arith, e)));
  row = λ is. (let inside = is.row in omega (arith, inside));
}

pub states_are_worked : StatesAreWorked
states_are_worked = record {
  notes = notes;
  new_notes = new_notes;
  waits = waits;
  program_waits = program_waits;
  voices = voices;
}
