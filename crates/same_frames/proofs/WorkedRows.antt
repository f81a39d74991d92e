-- The small song that is cut, computed.
use Rattle.std.proofs.Common.{◌≡◌, ℕ, zero, suc, ◌<◌, false, ◌∷◌, Contains, sym, lit<, lit≤, length, List, [], get_or}
use Rattle.std.proofs.Common.{refl, ap, ◌∙◌, arith}
use Rattle.std.specs.Prelude.{pos}
use Rattle.song_model.specs.declared.rows.Row.{Row}
use Rattle.song_model.specs.declared.tables.TableRow.{TableRow}
use Rattle.song_model.specs.declared.tables.TableName.{TableName}
use Rattle.song_model.specs.declared.tables.TableName.TheVariants.{Wave, Pulse, Filter, Speed}
use Rattle.song_model.specs.declared.orders.Order.{Order}
use Rattle.song_model.specs.declared.songs.Song.{Song}
use Rattle.song_model.specs.Endless.{IsPatternByte, IsEndless}
use Rattle.song_model.specs.PatternLimits.{IsPatternLength}
use Rattle.song_model.proofs.Laws.{plays_are_patterns_lem}
use Rattle.play_model.specs.LookUps.{look_ups_of}
use Rattle.same_frames.specs.SameRows.{HasPatternLengths, PlaysSameRows, SubtunePlaysSameRows}
use Rattle.same_frames.specs.RowLists.{PlayedRow, HasSameRowLists}
use Rattle.same_frames.specs.SamePlays.{PlaysSame}
use Rattle.same_frames.proofs.RowLists.{row_lists_lem}
use Rattle.same_frames.proofs.SameTraces.{same_rows_lem}
use Rattle.same_frames.proofs.Frames.{traces_of_songs_lem}
use Rattle.song_model.specs.Walk.{prefix_of, cycle_of, played}
use Rattle.song_model.specs.LookUp.{playable_subtune, playable_subtunes, instrument_at, table_row, pattern_at}
use Rattle.play_model.specs.Freq.{freq, half_tone, slide}
use Rattle.play_model.specs.Helpers.{next_row, porta_up, porta_down, tone, vibrato, do_command}
use Rattle.play_model.specs.FilterStep.{filter_step}
use Rattle.play_model.specs.TickStep.{between_rows, note_started, row_command, at_row, tick_step}
use Rattle.play_model.specs.WaveStep.{wave_command, wave_step}
use Rattle.play_model.specs.EffectStep.{effect_step}
use Rattle.play_model.specs.PulseStep.{pulse_step}
use Rattle.play_model.specs.FetchRow.{fetch_row}
use Rattle.play_model.specs.Frame.{voice_step, voice_registers, filter_registers, frame_of, state_after_with}
use Rattle.play_model.specs.Frame.{subtune_at, trace_with}
use Rattle.play_model.specs.WorkedSongs.{order}
use Rattle.play_model.specs.WorkedRuns.{first_left_out}
use Rattle.play_model.specs.declared.options.Options.{Options}
use Rattle.same_frames.specs.WorkedMaps.{frames_from}
use Rattle.same_frames.specs.WorkedRows.{whole_song, cut_song, whole_order, cut_order, PlacesAreAsWorked, CutRowsAreSame}
use Rattle.same_frames.specs.WorkedRows.{OtherRowsAreRefused, PartsAreSame}
use Rattle.same_frames.specs.WorkedRows.{CutFramesAreAsWorked, CutSongsPlaySame, CutsAreAsWorked}

note_of : Row → ℕ
note_of row = row.note

places_worked : PlacesAreAsWorked
unfolding prefix_of cycle_of played pattern_at
places_worked = record { whole = refl; cut = refl; rows = refl }

-- each pattern that is played has 1 to 128 rows
module _ (song : Song) (order : Order) (endless : IsEndless order)
    (each : (n : ℕ) → Contains order.entries n → IsPatternByte n → IsPatternLength (length (pattern_at song n))) where
  play_lengths : HasPatternLengths (look_ups_of song) order
  play_lengths i =
      let play = plays_are_patterns_lem order i endless in
      each (played order i).pattern play.entry play.pattern

whole_endless : IsEndless whole_order
whole_endless = record { restart = lit< tt; pattern = (0, 0, lit< tt, refl, lit< tt) }

cut_endless : IsEndless cut_order
cut_endless = record { restart = lit< tt; pattern = (0, 0, lit< tt, refl, lit< tt) }

whole_each : (n : ℕ) → Contains whole_order.entries n → IsPatternByte n → IsPatternLength (length (pattern_at whole_song n))
unfolding pattern_at
whole_each n (zero, inside, is) low = rw (sym is) (record { least = lit≤ tt; most = lit≤ tt })
whole_each n (suc zero, inside, is) low = absurd (omega arith)
whole_each n (suc (suc zero), inside, is) low = rw (sym is) (record { least = lit≤ tt; most = lit≤ tt })
whole_each n (suc (suc (suc k)), inside, is) low = absurd (omega arith)

cut_each : (n : ℕ) → Contains cut_order.entries n → IsPatternByte n → IsPatternLength (length (pattern_at cut_song n))
unfolding pattern_at
cut_each n (zero, inside, is) low = rw (sym is) (record { least = lit≤ tt; most = lit≤ tt })
cut_each n (suc zero, inside, is) low = rw (sym is) (record { least = lit≤ tt; most = lit≤ tt })
cut_each n (suc (suc zero), inside, is) low = absurd (omega arith)
cut_each n (suc (suc (suc zero)), inside, is) low = rw (sym is) (record { least = lit≤ tt; most = lit≤ tt })
cut_each n (suc (suc (suc (suc zero))), inside, is) low = rw (sym is) (record { least = lit≤ tt; most = lit≤ tt })
cut_each n (suc (suc (suc (suc (suc k)))), inside, is) low = absurd (omega arith)

cut_lists : HasSameRowLists (look_ups_of whole_song) (look_ups_of cut_song) whole_order cut_order
unfolding prefix_of cycle_of pattern_at
cut_lists = record { prefix = refl; cycle = refl }

-- how many rows there are, and the note of the first one
row_count : List PlayedRow → ℕ
row_count rows = length rows

first_note : List PlayedRow → ℕ
first_note [] = 0
first_note (played ∷ rows) = played.row.note

cut_same : CutRowsAreSame
unfolding prefix_of cycle_of pattern_at row_count first_note
cut_same = record {
  lists = cut_lists;
  rows = row_lists_lem (look_ups_of whole_song) (look_ups_of cut_song) whole_order cut_order whole_endless cut_endless
      (play_lengths whole_song whole_order whole_endless whole_each) (play_lengths cut_song cut_order cut_endless cut_each)
      cut_lists;
  lost = λ q. let e : 7 ≡ 8 = ap row_count q.prefix in omega arith;
  prefix = λ q. let e : 0xBD ≡ 0x90 = ap first_note q.prefix in omega arith;
}

rows_refused : OtherRowsAreRefused
unfolding prefix_of cycle_of played pattern_at note_of
rows_refused = record {
  lost = λ q. let e : 0x90 ≡ 0x92 = ap note_of (q.row 3) in omega arith;
  turned = λ q. let e : 0x92 ≡ 0x90 = ap note_of (q.row 0) in omega arith;
  transpose = λ q. let e : pos 0 ≡ pos 1 = q.transpose 4 in cc;
  restart = λ q. let e : 0x92 ≡ 0x90 = ap note_of (q.row 8) in omega arith;
  empty = λ q. let least = (q.lengths 0).least in omega arith;
}

-- the left side of a row
left_of : TableRow → ℕ
left_of row = row.left

parts_same : PartsAreSame
unfolding instrument_at table_row left_of
parts_same = record {
  cut = record { instrument = λ i. refl; row = each };
  other = λ q. let left : 0x88 ≡ 0x81 = ap left_of (q.row Pulse 1) in omega arith;
}
  where
    each : (name : TableName) (p : ℕ) → table_row cut_song name p ≡ table_row whole_song name p
    each Wave p = refl
    each Pulse p = refl
    each Filter p = refl
    each Speed p = refl

-- register r in frame n
register : ℕ → ℕ → List (List ℕ) → ℕ
register n r frames = get_or (get_or frames n []) r 0

frames_worked : CutFramesAreAsWorked
unfolding register prefix_of cycle_of played playable_subtune instrument_at table_row pattern_at
    freq half_tone slide next_row porta_up porta_down tone vibrato do_command filter_step
    between_rows note_started row_command at_row tick_step wave_command wave_step effect_step
    pulse_step fetch_row voice_step voice_registers filter_registers frame_of frames_from
frames_worked = record {
  registers = refl;
  with_options = refl;
  between = λ e. let pulse : 0xC0 ≡ 0xD0 = ap (register 20 2) e in omega arith;
}

-- ---- songs

abbrev rest_order : Order
rest_order = order (1 ∷ [])

rest_endless : IsEndless rest_order
rest_endless = record { restart = lit< tt; pattern = (0, 1, lit< tt, refl, lit< tt) }

rest_each : (song : Song) → length (pattern_at song 1) ≡ 1 → (n : ℕ) → Contains rest_order.entries n →
    IsPatternByte n → IsPatternLength (length (pattern_at song n))
rest_each song one n (zero, inside, is) low = rw (sym is, one) (record { least = lit≤ tt; most = lit≤ tt })
rest_each song one n (suc k, inside, is) low = absurd (omega arith)

rests_same : PlaysSameRows (look_ups_of whole_song) (look_ups_of cut_song) rest_order rest_order
unfolding prefix_of cycle_of pattern_at
rests_same =
    row_lists_lem (look_ups_of whole_song) (look_ups_of cut_song) rest_order rest_order rest_endless rest_endless
    (play_lengths whole_song rest_order rest_endless (rest_each whole_song refl))
    (play_lengths cut_song rest_order rest_endless (rest_each cut_song refl)) (record { prefix = refl; cycle = refl })

subtunes_same : SubtunePlaysSameRows (look_ups_of whole_song) (look_ups_of cut_song) (subtune_at whole_song 0)
    (subtune_at cut_song 0)
unfolding playable_subtune
subtunes_same zero is = rests_same
subtunes_same (suc zero) is = cut_same.rows
subtunes_same (suc (suc zero)) is = rests_same
subtunes_same (suc (suc (suc zero))) is = rests_same
subtunes_same (suc (suc (suc (suc k)))) is = absurd (omega arith)

cut_traces : (o : Options) → o.skip_first ≡ false → (k i : ℕ) → k < 1 →
    trace_with o cut_song k i ≡ trace_with o whole_song k i
cut_traces o kept zero i few =
    sym (traces_of_songs_lem o cut_song 0 i)
    ∙ same_rows_lem o (look_ups_of whole_song) (look_ups_of cut_song) (subtune_at whole_song 0) (subtune_at cut_song 0)
    i kept parts_same.cut subtunes_same
    ∙ traces_of_songs_lem o whole_song 0 i
cut_traces o kept (suc k) i few = absurd (omega arith)

-- songs that play the same have the same frames
frames_same : (o : Options) (song other : Song) → PlaysSame o song other → 0 < length (playable_subtunes song) →
    (n m : ℕ) →
    frames_from o other n (state_after_with o other 0 m) ≡ frames_from o song n (state_after_with o song 0 m)
unfolding state_after_with frames_from
frames_same o song other same some zero m = refl
frames_same o song other same some (suc n) m =
    rw (same.trace 0 (suc m) some)
    (ap (λ rest. trace_with o song 0 (suc m) ∷ rest) (frames_same o song other same some n (suc m)))

-- register r of one call
byte_of : ℕ → List ℕ → ℕ
byte_of r registers = get_or registers r 0

songs_play_same : CutSongsPlaySame
unfolding byte_of prefix_of cycle_of played playable_subtune instrument_at table_row pattern_at
    freq half_tone slide next_row porta_up porta_down tone vibrato do_command filter_step
    between_rows note_started row_command at_row tick_step wave_command wave_step effect_step
    pulse_step fetch_row voice_step voice_registers filter_registers frame_of state_after_with
songs_play_same = record {
  cut = λ o kept. record { count = refl; trace = cut_traces o kept };
  between = λ q. frames_worked.between (frames_same (first_left_out 1) whole_song cut_song q (lit< tt) 40 0);
  more = λ q. let e : 2 ≡ 1 = q.count in omega arith;
  less = λ q. let e : 1 ≡ 2 = q.count in omega arith;
  second = λ q. let e : 0 ≡ 0x09 = ap (byte_of 5) (q.trace 1 9 (lit< tt)) in omega arith;
}

pub cuts_are_as_worked_lem : CutsAreAsWorked
cuts_are_as_worked_lem = record {
  places = places_worked;
  same = cut_same;
  refused = rows_refused;
  parts = parts_same;
  frames = frames_worked;
  plays = songs_play_same;
}
