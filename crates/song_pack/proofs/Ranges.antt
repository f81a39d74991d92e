-- All numbers of a packed song are within their ranges.
use Rattle.std.proofs.Common.{◌≡◌, ◌≢◌, ℕ, zero, suc, ◌+◌, ◌-◌, ◌<◌, ◌≤◌, Bool, true}
use Rattle.std.proofs.Common.{false, List, map, length, get_or, replicate, All, Contains, Option, Some, None, refl, sym}
use Rattle.std.proofs.Common.{◌∙◌, ap, subst, inl, inr, arith}
use Rattle.std.specs.List.{filter}
use Rattle.std.proofs.lemmas.Bool.{cases_lt, cases_eq, ne_eqb}
use Rattle.std.proofs.lemmas.List.{length-map, length-replicate}
use Rattle.std.proofs.lemmas.List.Elements.{All-contains, All-contains_itself, All-map, All-weaker, All-replicate, All-from_get_or}
use Rattle.song_model.specs.declared.orders.Order.{Order}
use Rattle.song_model.specs.declared.orders.Subtune.{Subtune}
use Rattle.song_model.specs.declared.orders.TheConstants.{MOST_SUBTUNES}
use Rattle.song_model.specs.declared.patterns.TheConstants.{MOST_PATTERNS}
use Rattle.song_model.specs.declared.instruments.TheConstants.{MOST_INSTRUMENTS}
use Rattle.song_model.specs.declared.tables.TheConstants.{MOST_TABLE_ROWS}
use Rattle.song_model.specs.declared.tables.TableName.{TableName}
use Rattle.song_model.specs.declared.tables.TableName.TheVariants.{Wave, Pulse, Filter, Speed}
use Rattle.song_model.specs.declared.songs.Song.{Song}
use Rattle.song_model.specs.Basics.{IsByte, KeepsLimit}
use Rattle.song_model.specs.PatternLimits.{IsPattern}
use Rattle.song_model.specs.Limits.{IsText, IsOrder, IsSubtune, IsTableRow, IsTable, IsInstrument, KeepsLimits}
use Rattle.song_model.specs.LookUp.{zero_table_row, speed_row, table_of, table_row, instrument_at, is_playable_subtune}
use Rattle.song_model.specs.LookUp.{playable_subtunes}
use Rattle.song_model.specs.Pointers.{instrument_pointer}
use Rattle.song_model.proofs.Laws.{instrument_in_range, table_row_in_range}
use Rattle.play_model.specs.Used.{IsPlayedOrder, IsUsedInstrument}
use Rattle.play_model.specs.Reached.{is_jump, IsReached, played, pointed, of_instrument}
use Rattle.play_model.specs.Playable.{IsPlayable}
use Rattle.play_model.proofs.Laws.{closed_lem}
use Rattle.same_frames.specs.Maps.{Maps, moved_pointer, foreign_table, right_table, moved_row}
use Rattle.same_frames.specs.OrderLaws.{moved_byte, moved_order, moved_subtune}
use Rattle.packed_form.specs.declared.packed_songs.PackedInstrument.{PackedInstrument}
use Rattle.packed_form.specs.declared.packed_songs.PackedSong.{PackedSong}
use Rattle.packing_rules.specs.Segments.{ProgramTable, IsWhole, numbers, keeps}
use Rattle.packing_rules.specs.UsedSets.{UsedSets, AreUsedSets}
use Rattle.packing_rules.specs.Renumbering.{rank, same_row, speed_rows, wave_row, filter_programs, pulse_programs}
use Rattle.packing_rules.specs.Renumbering.{wave_programs, table_number, program_number, program_rows}
use Rattle.packing_rules.specs.Renumbering.{instruments_in_order}
use Rattle.packed_form.specs.Unpacked.{unpacked_instrument, unpacked_pattern, unpacked_song}
use Rattle.packing_rules.proofs.Laws.{kept_parts, kept_stands, playable_programs_are_whole, first_seen_all}
use Rattle.packing_rules.proofs.Laws.{instruments_few, IsOfOrder, all_of_order}
use Rattle.pattern_pack.proofs.Laws.{spelled_are_patterns}
use Rattle.table_pack.proofs.Laws.{rank_kept, rank_left}
use Rattle.song_pack.specs.Packed.{new_numbers, packed_instrument, IsPacked}
use Rattle.same_frames.proofs.Laws.{image_of}
use Rattle.song_pack.proofs.StoredTables.{tables_agree, packed_few, program_count, filter_number, pulse_number, wave_number}
use Rattle.song_pack.proofs.StoredPatterns.{number_fits, speeds_few, filter_few, few_texts, packed_is, pattern_spelled}
use Rattle.song_pack.proofs.PlayedOrders.{entries_fit, subtune_in_range, one_played, two_played, three_played, subtunes_unpacked}

-- ---- each new number is one of a kept number

record IsRanked (keep : ℕ → Bool) (n m : ℕ) : Type 0 where
  number : ℕ
  kept : keep number ≡ true
  rank_is : rank keep number ≡ m

ranked : (keep : ℕ → Bool) (n m : ℕ) → 1 ≤ m → m ≤ rank keep n → IsRanked keep n m
ranked keep zero m some most = absurd (omega arith)
ranked keep (suc n) m some most = elim (cases_lt (rank keep n) m) [
  | inr before ↦ (
      let found = ranked keep n m some before in
      record { number = found.number; kept = found.kept; rank_is = found.rank_is })
  | inl last ↦ by_last (keep (suc n)) refl last
]
  where
    by_last : (b : Bool) → keep (suc n) ≡ b → rank keep n < m → IsRanked keep (suc n) m
    by_last true is last =
        let e = rank_kept keep n is in
        record { number = suc n; kept = is; rank_is = omega arith }
    by_last false is last = let e = rank_left keep n is in absurd (omega arith)

-- ---- texts and lists

zero_text : (n : ℕ) → IsText n (replicate n 0)
zero_text n = record { count = length-replicate n 0; each = All-replicate IsByte n 0 (omega arith) }

row_behind : (song : Song) (name : TableName) (i : ℕ) →
    table_row song name (i + 1) ≡ get_or (table_of song name) i zero_table_row
unfolding table_row
row_behind song name i =
    let some = ne_eqb (i + 1) 0 (λ (e : i + 1 ≡ 0). omega arith) in
    let less : i + 1 - 1 ≡ i = omega arith in
    rw some (rw less refl)

-- ---- rows of tables

module _ (song : Song) (used : UsedSets) (packed : PackedSong) (limits : KeepsLimits song) (play : IsPlayable song)
    (are : AreUsedSets song used) (is : IsPacked song used packed) where
  maps : Maps
  maps = new_numbers song used

  nothing_fits : (name : TableName) (p : ℕ) → p ≡ 0 → IsByte (table_number song used name p)
  nothing_fits name p none =
      let e : table_number song used name p ≡ 0 =
      ap (table_number song used name) none ∙ (tables_agree song used packed play are is name).rows.nothing in
      omega arith

  fits : (name : TableName) (p : ℕ) → (p ≢ 0 → IsReached song name p) → IsByte (table_number song used name p)
  fits name p reached = elim (cases_eq p 0) [
    | inl none ↦ nothing_fits name p none
    | inr some ↦ number_fits song used packed are is limits play name p (reached some)
  ]

  jump_fits : (name : TableName) (p : ℕ) → IsReached song name p → is_jump name (table_row song name p) ≡ true →
      IsByte (table_number song used name (table_row song name p).right)
  jump_fits name p reached jump =
      fits name (table_row song name p).right
      (λ some. (closed_lem song).target name (table_row song name p).right
      (record { p = p; reached = reached; jump = jump; target = refl; some = some }))

  foreign_fits : (name : TableName) (p : ℕ) → IsReached song name p → (t : Option TableName) →
      foreign_table name (table_row song name p) ≡ t →
      IsByte (moved_pointer (new_numbers song used) t (table_row song name p).right)
  foreign_fits name p reached None e = (table_row_in_range song name p limits).right
  foreign_fits Wave p reached (Some other) e =
      fits other (table_row song Wave p).right
      (λ some. pointed p reached (record { table = e; right = refl; some = some }))
  foreign_fits Pulse p reached (Some other) e = absurd cc
  foreign_fits Filter p reached (Some other) e = absurd cc
  foreign_fits Speed p reached (Some other) e = absurd cc

  row_fits : (name : TableName) (p : ℕ) → IsReached song name p →
      IsTableRow (moved_row (new_numbers song used) name (table_row song name p))
  row_fits name p reached = record {
    left = (table_row_in_range song name p limits).left;
    right = by_jump (is_jump name (table_row song name p)) refl;
  }
    where
      by_jump : (b : Bool) → is_jump name (table_row song name p) ≡ b →
          IsByte (moved_pointer (new_numbers song used) (right_table name (table_row song name p))
          (table_row song name p).right)
      by_jump true e = rw e (jump_fits name p reached e)
      by_jump false e = rw e (foreign_fits name p reached (foreign_table name (table_row song name p)) refl)

  -- each stored row stands for a reached one
  row_from : (name : TableName) (table : ProgramTable) → table_of (unpacked_song packed) name ≡ program_rows table →
      IsWhole table → ((p : ℕ) → table_number song used name p ≡ program_number table p) →
      ((p : ℕ) → table.reached p ≡ true → IsReached song name p) → (i : ℕ) →
      i < length (table_of (unpacked_song packed) name) →
      IsTableRow (get_or (table_of (unpacked_song packed) name) i zero_table_row)
  row_from name table rows whole number reached i inside =
      let count = program_count table in
      let all = ap length rows in
      let found = ranked (keeps table) (length table.rows) (i + 1) (omega arith) (omega arith) in
      let kept = kept_parts table found.number found.kept in
      let here = reached found.number kept.reached in
      let new : table_number song used name found.number ≡ i + 1 =
      number found.number ∙ ap (rank (keeps table)) (kept_stands table found.number whole found.kept) ∙ found.rank_is in
      subst IsTableRow
      (sym ((tables_agree song used packed play are is name).rows.row found.number here)
      ∙ ap (table_row (unpacked_song packed) name) new ∙ row_behind (unpacked_song packed) name i)
      (row_fits name found.number here)

  rows_in_range : (name : TableName) (table : ProgramTable) → table_of (unpacked_song packed) name ≡ program_rows
      table →
      IsWhole table → ((p : ℕ) → table_number song used name p ≡ program_number table p) →
      ((p : ℕ) → table.reached p ≡ true → IsReached song name p) → length table.rows ≤ MOST_TABLE_ROWS →
      IsTable (table_of (unpacked_song packed) name)
  rows_in_range name table rows whole number reached few =
      let most = packed_few table (table_of (unpacked_song packed) name) rows in
      record {
        count = omega arith;
        each = All-from_get_or IsTableRow (table_of (unpacked_song packed) name) zero_table_row
            (row_from name table rows whole number reached);
      }

  pub filter_in_range : IsTable packed.filter
  filter_in_range =
      rows_in_range Filter (filter_programs song used) is.filter (playable_programs_are_whole song used play are).2
      (filter_number song used) (λ p. (are.reached Filter p).0) limits.filter.count

  pub pulse_in_range : IsTable packed.pulse
  pulse_in_range =
      rows_in_range Pulse (pulse_programs song used) is.pulse (playable_programs_are_whole song used play are).1
      (pulse_number song used) (λ p. (are.reached Pulse p).0) limits.pulse.count

  pub wave_in_range : IsTable packed.wave
  wave_in_range =
      let count = length-map song.wave (wave_row song used) in
      let most = limits.wave.count in
      rows_in_range Wave (wave_programs song used) is.wave (playable_programs_are_whole song used play are).0
      (wave_number song used) (λ p. (are.reached Wave p).0) (omega arith)

  pub speed_in_range : IsTable packed.speed
  unfolding speed_rows
  speed_in_range =
      let pointers = filter (used.pointers Speed) (numbers MOST_TABLE_ROWS) in
      record {
        count = speeds_few song used packed are is limits play;
        each = subst (All IsTableRow) (sym is.speed.rows_are)
            (first_seen_all IsTableRow same_row (map (speed_row song) pointers)
            (All-map IsTableRow (speed_row song) pointers
            (All-weaker (Contains pointers) (λ p. IsTableRow (speed_row song p))
            (λ p has. table_row_in_range song Speed p limits) pointers (All-contains_itself pointers))));
      }

  -- ---- instruments

  pointer_fits : (name : TableName) (i : ℕ) → IsUsedInstrument song i →
      IsByte (table_number song used name (instrument_pointer name (instrument_at song i)))
  pointer_fits name i is_used =
      fits name (instrument_pointer name (instrument_at song i)) (λ some. played (of_instrument i is_used refl some))

  instrument_fits : (i : ℕ) → IsUsedInstrument song i →
      IsInstrument (unpacked_instrument (packed_instrument (table_number song used) (instrument_at song i)))
  instrument_fits i is_used =
      let range = instrument_in_range song i limits in
      record {
        ad = range.ad;
        sr = range.sr;
        wave = pointer_fits Wave i is_used;
        pulse = pointer_fits Pulse i is_used;
        filter = pointer_fits Filter i is_used;
        vibrato = pointer_fits Speed i is_used;
        vibrato_delay = range.vibrato_delay;
        gate_timer = range.gate_timer;
        first_wave = range.first_wave;
        name = zero_text 16;
      }

  -- the first is used, and so are those behind it
  is_used_one : (i : ℕ) → IsOfOrder used i → IsUsedInstrument song i
  is_used_one i kept = elim (cases_eq i 1) [
    | inl first ↦ inl first
    | inr other ↦ (let low = kept.first in (are.instruments i).0 (kept.kept (grind arith)))
  ]

  instrument_from : (i : PackedInstrument) → Contains packed.instruments i → IsInstrument (unpacked_instrument i)
  instrument_from i has =
      let image = image_of (λ n. packed_instrument (table_number song used) (instrument_at song n))
      (instruments_in_order song used) i
      (subst (λ (all : List PackedInstrument). Contains all i) is.instruments has) in
      let kept = All-contains (IsOfOrder used) (instruments_in_order song used) image.from (all_of_order song used)
      image.has in
      subst (λ (x : PackedInstrument). IsInstrument (unpacked_instrument x)) image.is
      (instrument_fits image.from (is_used_one image.from kept))

  pub instruments_in_range : KeepsLimit MOST_INSTRUMENTS IsInstrument (unpacked_song packed).instruments
  instruments_in_range =
      let count = length-map packed.instruments unpacked_instrument in
      let same = ap length is.instruments in
      let made = length-map (instruments_in_order song used)
      (λ n. packed_instrument (table_number song used) (instrument_at song n)) in
      let few = instruments_few song used in
      record {
        count = omega arith;
        each = All-map IsInstrument unpacked_instrument packed.instruments
            (All-weaker (Contains packed.instruments) (λ i. IsInstrument (unpacked_instrument i)) instrument_from
            packed.instruments (All-contains_itself packed.instruments));
      }

  -- ---- patterns

  pub patterns_in_range : KeepsLimit MOST_PATTERNS IsPattern (unpacked_song packed).patterns
  patterns_in_range =
      let count = length-map packed.patterns unpacked_pattern in
      let few = few_texts song used packed are is in
      let same = ap length (packed_is song used packed are is) in
      record {
        count = omega arith;
        each = All-map IsPattern unpacked_pattern packed.patterns
            (All-weaker (Contains packed.patterns) (λ bytes. IsPattern (unpacked_pattern bytes))
            (λ bytes has. spelled_are_patterns bytes (unpacked_pattern bytes)
            (pattern_spelled song used packed are is limits play bytes has)) packed.patterns
            (All-contains_itself packed.patterns));
      }

  -- ---- subtunes

  moved_in_range : (order : Order) → IsPlayedOrder song order → IsOrder order →
      IsOrder (moved_order (new_numbers song used) order)
  moved_in_range order o range =
      let count = length-map order.entries (moved_byte (new_numbers song used)) in
      let few = range.entries.count in
      record {
        entries = record { count = omega arith; each = entries_fit song used packed limits play are is order o };
        restart = range.restart;
      }

  subtune_fits : (subtune : Subtune) → Contains (playable_subtunes song) subtune →
      IsSubtune (moved_subtune (new_numbers song used) subtune)
  subtune_fits subtune has =
      let range = subtune_in_range song used packed limits play are is subtune has in
      record {
        one = moved_in_range subtune.one (one_played song used packed limits play are is subtune has) range.one;
        two = moved_in_range subtune.two (two_played song used packed limits play are is subtune has) range.two;
        three = moved_in_range subtune.three (three_played song used packed limits play are is subtune has) range.three;
      }

  pub subtunes_in_range : KeepsLimit MOST_SUBTUNES IsSubtune (unpacked_song packed).subtunes
  subtunes_in_range =
      let e = subtunes_unpacked song used packed limits play are is in
      let same = ap length e in
      let count = length-map (playable_subtunes song) (moved_subtune (new_numbers song used)) in
      let few = filter_few is_playable_subtune song.subtunes in
      let most = limits.subtunes.count in
      record {
        count = omega arith;
        each = subst (All IsSubtune) (sym e)
            (All-map IsSubtune (moved_subtune (new_numbers song used)) (playable_subtunes song)
            (All-weaker (Contains (playable_subtunes song))
            (λ s. IsSubtune (moved_subtune (new_numbers song used) s)) subtune_fits (playable_subtunes song)
            (All-contains_itself (playable_subtunes song))));
      }

  pub keeps_limits : KeepsLimits (unpacked_song packed)
  keeps_limits = record {
    name = zero_text 32;
    author = zero_text 32;
    copyright = zero_text 32;
    subtunes = subtunes_in_range;
    instruments = instruments_in_range;
    wave = wave_in_range;
    pulse = pulse_in_range;
    filter = filter_in_range;
    speed = speed_in_range;
    patterns = patterns_in_range;
  }
