-- The worked beginnings, computed.
use Rattle.std.proofs.Common.{◌≡◌, ◌≢◌, ℕ, zero, suc, ◌<◌, ◌≤◌, List, length, [], ◌∷◌}
use Rattle.std.proofs.Common.{Contains, get_or, refl, sym, ap, ◌∙◌, arith, lit<, lit≤}
use Rattle.std.specs.Prelude.{Some, None}
use Rattle.song_model.specs.declared.rows.Row.{Row}
use Rattle.song_model.specs.declared.orders.Order.{Order}
use Rattle.song_model.specs.Walk.{prefix_of, cycle_of, played}
use Rattle.song_model.specs.LookUp.{order_of, playable_subtune, instrument_at, table_row, pattern_at}
use Rattle.song_model.specs.PatternLimits.{IsPatternLength}
use Rattle.song_model.proofs.Laws.{plays_are_entries_lem}
use Rattle.play_model.specs.Used.{IsChannel}
use Rattle.play_model.specs.LookUps.{LookUps, look_ups_of}
use Rattle.play_model.specs.Freq.{freq, half_tone, slide}
use Rattle.play_model.specs.Helpers.{next_row, porta_up, porta_down, tone, vibrato, do_command}
use Rattle.play_model.specs.FilterStep.{filter_step}
use Rattle.play_model.specs.TickStep.{between_rows, note_started, row_command, at_row, tick_step}
use Rattle.play_model.specs.WaveStep.{wave_command, wave_step}
use Rattle.play_model.specs.EffectStep.{effect_step}
use Rattle.play_model.specs.PulseStep.{pulse_step}
use Rattle.play_model.specs.FetchRow.{fetch_row}
use Rattle.play_model.specs.Frame.{voice_step, voice_registers, filter_registers, frame_of}
use Rattle.play_model.specs.WorkedSongs.{order, subtune, row}
use Rattle.same_frames.specs.Begins.{opening_of_play, rows_of_play, BeginsUnnamed}
use Rattle.same_frames.specs.WorkedMaps.{frames_from}
use Rattle.same_frames.specs.WorkedBegins.{two_instruments, named_rows, unnamed_rows, BeginningsAreUnnamed}
use Rattle.same_frames.specs.WorkedBegins.{EitherBegins, BeginningsShow, BeginningsAreAsWorked}

same_row : (a b : Row) → Some a ≡ Some b → a ≡ b
same_row a b e = cc

some_is_none : (a : Row) → Some a ≡ None → ⊥
some_is_none a e = cc

-- where the first play has an opening row that names an instrument
first_names : (look : LookUps) (order : Order) (row : Row) → opening_of_play look order 0 ≡ Some row →
    row.instrument ≢ 0 → ¬ BeginsUnnamed look order
first_names look order row opens some begins = at_play begins.play begins.opens begins.before
  where
    at_play : (n : ℕ) → opening_of_play look order n ≡ Some begins.row →
        ((i : ℕ) → i < n → opening_of_play look order i ≡ None) → ⊥
    at_play zero here before =
        some (ap (λ (r : Row). r.instrument) (same_row row begins.row (sym opens ∙ here)) ∙ begins.unnamed)
    at_play (suc n) here before = some_is_none row (sym opens ∙ before 0 (omega arith))

beginnings_unnamed : BeginningsAreUnnamed
unfolding pattern_at prefix_of cycle_of played
beginnings_unnamed = record {
  note = record {
    play = 0;
    row = row 0x90 0 0 0;
    opens = refl;
    unnamed = refl;
    before = λ i low. absurd (omega arith);
  };
  later = record {
    play = 1;
    row = row 0x90 0 0 0;
    opens = refl;
    unnamed = refl;
    before = λ i low. let e : i ≡ 0 = omega arith in rw e refl;
  };
  own =
      first_names (look_ups_of (two_instruments 2 named_rows)) (order (0 ∷ [])) (row 0x90 1 0 0) refl
      (λ e. omega arith);
  earlier =
      first_names (look_ups_of (two_instruments 2 (row 0xBD 2 0 0 ∷ unnamed_rows))) (order (0 ∷ [])) (row 0xBD 2 0 0)
      refl (λ e. omega arith);
}

-- ---- either instrument

abbrev named_look : LookUps
named_look = look_ups_of (two_instruments 0xC2 named_rows)

only : (one x : ℕ) → Contains (one ∷ []) x → one ≡ x
only one x (zero, inside, is) = is
only one x (suc k, inside, is) = absurd (omega arith)

zero_played : (i : ℕ) → 0 ≡ (played (order (0 ∷ [])) i).pattern
unfolding prefix_of cycle_of
zero_played i = only 0 _ (plays_are_entries_lem (order (0 ∷ [])) i (lit< tt))

one_played : (i : ℕ) → 1 ≡ (played (order (1 ∷ [])) i).pattern
unfolding prefix_of cycle_of
one_played i = only 1 _ (plays_are_entries_lem (order (1 ∷ [])) i (lit< tt))

zero_length : (i : ℕ) → IsPatternLength (length (rows_of_play named_look (order (0 ∷ [])) i))
unfolding pattern_at
zero_length i = rw (sym (zero_played i)) (record { least = lit≤ tt; most = lit≤ tt })

one_length : (i : ℕ) → IsPatternLength (length (rows_of_play named_look (order (1 ∷ [])) i))
unfolding pattern_at
one_length i = rw (sym (one_played i)) (record { least = lit≤ tt; most = lit≤ tt })

rests_open : (i : ℕ) → opening_of_play named_look (order (1 ∷ [])) i ≡ None
unfolding pattern_at
rests_open i = rw (sym (one_played i)) refl

no_channel : (n : ℕ) → ¬ IsChannel (suc (suc (suc (suc n))))
no_channel n is = let last = is.last in omega arith

each_named : (channel : ℕ) → IsChannel channel →
    ¬ BeginsUnnamed named_look (order_of channel (subtune (0 ∷ []) (1 ∷ []) (1 ∷ [])))
unfolding pattern_at prefix_of cycle_of played
each_named zero is = let first = is.first in absurd (omega arith)
each_named (suc zero) is = first_names named_look (order (0 ∷ [])) (row 0x90 1 0 0) refl (λ e. omega arith)
each_named (suc (suc zero)) is = λ b. some_is_none b.row (sym b.opens ∙ rests_open b.play)
each_named (suc (suc (suc zero))) is = λ b. some_is_none b.row (sym b.opens ∙ rests_open b.play)
each_named (suc (suc (suc (suc n)))) is = absurd (no_channel n is)

each_length : (channel n : ℕ) → IsChannel channel →
    IsPatternLength (length (rows_of_play named_look (order_of channel (subtune (0 ∷ []) (1 ∷ []) (1 ∷ []))) n))
each_length zero n is = let first = is.first in absurd (omega arith)
each_length (suc zero) n is = zero_length n
each_length (suc (suc zero)) n is = one_length n
each_length (suc (suc (suc zero))) n is = one_length n
each_length (suc (suc (suc (suc k)))) n is = absurd (no_channel k is)

either_begins : EitherBegins
unfolding pattern_at prefix_of cycle_of played instrument_at
either_begins = record {
  both = record { timer = refl; named = each_named; lengths = each_length };
  timer = λ m. let e : 3 ≡ 2 = m.timer in omega arith;
  named = λ m. m.named 1 (record { first = lit≤ tt; last = lit≤ tt }) beginnings_unnamed.note;
  lengths = λ m.
      let least : 1 ≤ 0 = (m.lengths 1 0 (record { first = lit≤ tt; last = lit≤ tt })).least in
      omega arith;
}

-- ---- where it shows

-- register r in frame n
register : ℕ → ℕ → List (List ℕ) → ℕ
register n r frames = get_or (get_or frames n []) r 0

beginnings_show : BeginningsShow
unfolding register prefix_of cycle_of played playable_subtune instrument_at table_row pattern_at
    freq half_tone slide next_row porta_up porta_down tone vibrato do_command filter_step
    between_rows note_started row_command at_row tick_step wave_command wave_step effect_step
    pulse_step fetch_row voice_step voice_registers filter_registers frame_of frames_from
beginnings_show = record {
  same_timers = refl;
  named = refl;
  unnamed = λ e. let envelope : 0x12 ≡ 0x09 = ap (register 12 5) e in omega arith;
  timer = λ e. let envelope : 0x0F ≡ 0x20 = ap (register 9 5) e in omega arith;
}

pub beginnings_are_as_worked_lem : BeginningsAreAsWorked
beginnings_are_as_worked_lem = record { unnamed = beginnings_unnamed; either = either_begins; show = beginnings_show }
