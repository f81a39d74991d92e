-- The worked songs that can be joined, and those that can't.
use Rattle.std.proofs.Common.{◌≡◌, ℕ, zero, suc, ◌-◌, ◌<◌, ◌≤◌, List, [], ◌∷◌, All, refl}
use Rattle.std.proofs.Common.{sym, ap, ◌∙◌, inl, inr, arith, lit<, lit≤}
use Rattle.std.specs.Prelude.{Some, None}
use Rattle.std.proofs.lemmas.List.Elements.{All-contains}
use Rattle.std.proofs.lemmas.List.{get_or_past}
use Rattle.song_model.specs.declared.rows.Row.{Row}
use Rattle.song_model.specs.declared.instruments.Instrument.{Instrument}
use Rattle.song_model.specs.declared.tables.TableName.TheVariants.{Wave, Speed as SpeedTable}
use Rattle.song_model.specs.LookUp.{zero_instrument, zero_table_row, instrument_at, table_row, pattern_at, playable_subtune}
use Rattle.song_model.specs.Pointers.{command_table, wave_row_table}
use Rattle.song_model.specs.Silence.{silence}
use Rattle.song_model.specs.Walk.{prefix_of, cycle_of, played}
use Rattle.play_model.specs.Used.{IsUsedInstrument, IsUsedRow}
use Rattle.play_model.specs.Reached.{IsPointer, IsPlayedPointer, of_instrument, of_row, of_played, of_wave_row}
use Rattle.play_model.specs.WorkedSongs.{row, rests}
use Rattle.song_join.specs.declared.faults.JoinPart.{JoinPart}
use Rattle.song_join.specs.declared.faults.JoinPart.TheVariants.{Subtunes, Instruments, Wave as WaveRows, Pulse, Filter}
use Rattle.song_join.specs.declared.faults.JoinPart.TheVariants.{Speed, Patterns}
use Rattle.song_join.specs.Limits.{part_number, IsWithin}
use Rattle.song_join.specs.Loose.{IsLooseInstrument, IsLooseSpeed, NothingIsLoose}
use Rattle.song_join.specs.Openings.{opening, IsUnnamedAt, NamesFirst}
use Rattle.song_join.specs.WorkedJoinable.{still, still_song, vibrating_song, noted_rows, unnamed_song, crowded_song}
use Rattle.song_join.specs.WorkedJoinable.{JoinableSongs, SongsAreRefused}
use Rattle.song_join.proofs.FoundParts.{some_number}
use Rattle.song_join.proofs.NotStored.{first_song_loose, second_song_loose}

-- ---- limits

still_within : (r s : List Row) (v w t u : ℕ) (part : JoinPart) → IsWithin (still r v t) (still s w u) part
still_within r s v w t u Subtunes = omega arith
still_within r s v w t u Instruments = omega arith
still_within r s v w t u WaveRows = omega arith
still_within r s v w t u Pulse = omega arith
still_within r s v w t u Filter = omega arith
still_within r s v w t u Speed = omega arith
still_within r s v w t u Patterns = omega arith

half_within : (part : JoinPart) → IsWithin still_song silence part
half_within Subtunes = omega arith
half_within Instruments = omega arith
half_within WaveRows = omega arith
half_within Pulse = omega arith
half_within Filter = omega arith
half_within Speed = omega arith
half_within Patterns = omega arith

silent_within : (part : JoinPart) → IsWithin silence silence part
silent_within Subtunes = omega arith
silent_within Instruments = omega arith
silent_within WaveRows = omega arith
silent_within Pulse = omega arith
silent_within Filter = omega arith
silent_within Speed = omega arith
silent_within Patterns = omega arith

subtunes_within : (other : JoinPart) → part_number other < 1 → IsWithin crowded_song crowded_song other
subtunes_within Subtunes low = omega arith
subtunes_within Instruments low = absurd (omega arith)
subtunes_within WaveRows low = absurd (omega arith)
subtunes_within Pulse low = absurd (omega arith)
subtunes_within Filter low = absurd (omega arith)
subtunes_within Speed low = absurd (omega arith)
subtunes_within Patterns low = absurd (omega arith)

-- ---- what is used

-- it names instrument 1 or none, and has no command
record IsStill (r : Row) : Type 0 where
  named : r.instrument ≤ 1
  command : r.command ≡ 0

still_rests : All IsStill (rests 1)
still_rests zero d low = record { named = lit≤ tt; command = refl }
still_rests (suc k) d low = absurd (omega arith)

still_notes : All IsStill noted_rows
still_notes zero d low = record { named = lit≤ tt; command = refl }
still_notes (suc zero) d low = record { named = lit≤ tt; command = refl }
still_notes (suc (suc k)) d low = absurd (omega arith)

still_rows : (rows : List Row) (v t : ℕ) → All IsStill rows → (n : ℕ) → All IsStill (pattern_at (still rows v t) n)
unfolding pattern_at
still_rows rows v t each zero k d low = each k d low
still_rows rows v t each (suc n) k d low = absurd (omega arith)

used_still : (rows : List Row) (v t : ℕ) → All IsStill rows → (r : Row) → IsUsedRow (still rows v t) r → IsStill r
used_still rows v t each r used =
    All-contains IsStill (pattern_at (still rows v t) used.pattern) r (still_rows rows v t each used.pattern) used.has

used_one : (rows : List Row) (v t : ℕ) → All IsStill rows → (i : ℕ) → IsUsedInstrument (still rows v t) i → i ≤ 1
used_one rows v t each i (inl first) = omega arith
used_one rows v t each i (inr named) =
    let is_still = used_still rows v t each named.row named.used in
    let low = is_still.named in
    let names = named.names in
    omega arith

none_loose : (rows : List Row) (v t : ℕ) → All IsStill rows → (n : ℕ) → ¬ IsLooseInstrument (still rows v t) n
none_loose rows v t each n loose =
    let one = used_one rows v t each n loose.used in
    let above = loose.above in
    omega arith

instruments_stored : (r s : List Row) (v w t u : ℕ) → All IsStill r → All IsStill s →
    NothingIsLoose IsLooseInstrument (still r v t) (still s w u)
instruments_stored r s v w t u one two =
    record { first_song = none_loose r v t one; second_song = none_loose s w u two }

no_vibrato : (rows : List Row) (t i : ℕ) → (instrument_at (still rows 0 t) i).vibrato ≡ 0
unfolding instrument_at
no_vibrato rows t zero = refl
no_vibrato rows t (suc zero) = refl
no_vibrato rows t (suc (suc i)) =
    let one = record zero_instrument { vibrato = 0; gate_timer = t } in
    ap (λ (x : Instrument). x.vibrato)
    (some_number (one ∷ []) (suc (suc i)) zero_instrument (λ e. omega arith)
    ∙ get_or_past (one ∷ []) (suc (suc i) - 1) zero_instrument (omega arith))

no_wave_row : (rows : List Row) (v t r : ℕ) → table_row (still rows v t) Wave r ≡ zero_table_row
unfolding table_row
no_wave_row rows v t zero = refl
no_wave_row rows v t (suc r) =
    some_number [] (suc r) zero_table_row (λ e. omega arith) ∙ get_or_past [] (suc r - 1) zero_table_row (omega arith)

none_played : (rows : List Row) (t : ℕ) → All IsStill rows → (p : ℕ) → ¬ IsPlayedPointer (still rows 0 t) SpeedTable p
none_played rows t each p (of_instrument i used is some) = some (sym is ∙ no_vibrato rows t i)
none_played rows t each p (of_row r used command is some) =
    let no_command = (used_still rows 0 t each r used).command in
    let e : None ≡ Some SpeedTable = sym (ap (λ x. command_table x) no_command) ∙ command in
    cc

none_pointed : (rows : List Row) (t : ℕ) → All IsStill rows → (p : ℕ) → ¬ IsPointer (still rows 0 t) SpeedTable p
none_pointed rows t each p (of_played pointer) = none_played rows t each p pointer
none_pointed rows t each p (of_wave_row r reached pointer) =
    let e : None ≡ Some SpeedTable =
    ap (λ x. wave_row_table x.left) (sym (no_wave_row rows 0 t r)) ∙ pointer.table in
    cc

speeds_stored : (r s : List Row) (t u : ℕ) → All IsStill r → All IsStill s →
    NothingIsLoose IsLooseSpeed (still r 0 t) (still s 0 u)
speeds_stored r s t u one two = record {
  first_song = λ n loose. none_pointed r t one n loose.pointer;
  second_song = λ n loose. none_pointed s u two n loose.pointer;
}

-- ---- notes and instruments

none_opens : (v t n : ℕ) → opening (pattern_at (still (rests 1) v t) n) ≡ None
unfolding pattern_at
none_opens v t zero = refl
none_opens v t (suc n) = refl

some_is_none : (r : Row) → Some r ≡ None → ⊥
some_is_none r e = cc

still_named : (v t : ℕ) → NamesFirst (still (rests 1) v t)
still_named v t s channel at = some_is_none at.begins.row (sym at.begins.opens ∙ none_opens v t _)

unnamed_first : IsUnnamedAt unnamed_song 1 1
unfolding pattern_at prefix_of cycle_of played playable_subtune
unnamed_first = record {
  first = lit≤ tt;
  last = lit≤ tt;
  is_channel = record { first = lit≤ tt; last = lit≤ tt };
  begins = record {
    play = 0;
    row = row 0x90 0 0 0;
    opens = refl;
    unnamed = refl;
    before = λ i low. absurd (omega arith);
  };
}

-- ---- the silent song has no instrument, and the vibrating one no row

silent_loose : IsLooseInstrument silence 1
silent_loose = record { used = inl refl; above = lit< tt }

none_below : (k : ℕ) → k < 1 → ¬ IsLooseInstrument silence k
none_below k low loose = zero_unused loose.used
  where
    zero_unused : IsUsedInstrument silence k → ⊥
    zero_unused (inl one) = omega arith
    zero_unused (inr named) = named.some (omega arith)

vibrato_loose : (t : ℕ) → IsLooseSpeed (still (rests 1) 1 t) 1
unfolding instrument_at
vibrato_loose t =
    record { pointer = of_played (of_instrument 1 (inl refl) refl (λ z. omega arith)); above = lit< tt }

no_row_below : (k : ℕ) → k < 1 → ¬ IsLooseSpeed vibrating_song k
no_row_below k low loose = let above : 0 < k = loose.above in omega arith

pub joinable_songs_lem : JoinableSongs
unfolding instrument_at
joinable_songs_lem = record {
  can = record {
    within = record { part = still_within (rests 1) (rests 1) 0 0 0 0 };
    instruments = instruments_stored (rests 1) (rests 1) 0 0 0 0 still_rests still_rests;
    speeds = speeds_stored (rests 1) (rests 1) 0 0 still_rests still_rests;
    timers = refl;
    named = still_named 0 0;
  };
  high = record {
    within = record { part = still_within (rests 1) (rests 1) 0 0 0x42 2 };
    instruments = instruments_stored (rests 1) (rests 1) 0 0 0x42 2 still_rests still_rests;
    speeds = speeds_stored (rests 1) (rests 1) 0x42 2 still_rests still_rests;
    timers = refl;
    named = still_named 0 2;
  };
  notes_first = record {
    within = record { part = still_within noted_rows (rests 1) 0 0 0 0 };
    instruments = instruments_stored noted_rows (rests 1) 0 0 0 0 still_notes still_rests;
    speeds = speeds_stored noted_rows (rests 1) 0 0 still_notes still_rests;
    timers = refl;
    named = still_named 0 0;
  };
  within = λ can. let few : 80 ≤ 63 = can.within.part Instruments in omega arith;
  instruments = λ can. can.instruments.first_song 1 silent_loose;
  speeds = λ can. can.speeds.first_song 1 (vibrato_loose 0);
  timers = λ can. let same : 1 ≡ 0 = can.timers in omega arith;
  named = λ can. can.named 1 1 unnamed_first;
}

pub songs_are_refused_lem : SongsAreRefused
unfolding instrument_at
songs_are_refused_lem = record {
  over = record { over = lit< tt; sum_is = refl; earlier = subtunes_within };
  first = (
    record { part = silent_within },
    first_song_loose IsLooseInstrument silence silence 1 silent_loose none_below,
  );
  second = (
    record { part = half_within },
    second_song_loose IsLooseInstrument still_song silence 1 silent_loose none_below
        (none_loose (rests 1) 0 0 still_rests),
  );
  speed = (
    record { part = still_within (rests 1) (rests 1) 1 0 0 0 },
    instruments_stored (rests 1) (rests 1) 1 0 0 0 still_rests still_rests,
    first_song_loose IsLooseSpeed vibrating_song still_song 1 (vibrato_loose 0) no_row_below,
  );
  timer = (
    record { part = still_within (rests 1) (rests 1) 0 0 1 0 },
    instruments_stored (rests 1) (rests 1) 0 0 1 0 still_rests still_rests,
    speeds_stored (rests 1) (rests 1) 1 0 still_rests still_rests,
    record { one_is = refl; two_is = refl; differ = λ e. omega arith },
  );
  unnamed = (
    record { part = still_within (rests 1) noted_rows 0 0 0 0 },
    instruments_stored (rests 1) noted_rows 0 0 0 0 still_rests still_notes,
    speeds_stored (rests 1) noted_rows 0 0 still_rests still_notes,
    refl,
    record {
      is_such = unnamed_first;
      before = λ i j low such. let least = such.first in omega arith;
      below = λ j low such. let least = such.is_channel.first in omega arith;
    },
  );
  other_song = λ x. x.1.before 1 1 (lit< tt)
      (record { number = record { first = lit≤ tt; last = lit≤ tt }; loose = silent_loose });
  other_channel = λ x. x.4.below 1 (lit< tt) unnamed_first;
  earlier_speed = λ x. x.2.first_song 1 (vibrato_loose 1);
  earlier_timer = λ x. let same : 1 ≡ 0 = x.3 in omega arith;
  memory = λ x. x;
}
