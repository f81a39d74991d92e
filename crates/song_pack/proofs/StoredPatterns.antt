-- The patterns of a packed song agree with those of its song.
use Rattle.std.specs.Prelude.{◌==◌, if◌then◌else◌}
use Rattle.std.proofs.Common.{◌≡◌, ◌≢◌, ℕ, ◌<◌, ◌≤◌, Bool, true, false, not, List, []}
use Rattle.std.proofs.Common.{◌∷◌, map, length, get_or, All, Contains, Option, Some, None, refl, sym, ◌∙◌}
use Rattle.std.proofs.Common.{ap, subst, inl, inr, arith}
use Rattle.std.specs.List.{filter, range_with_len, position_or_len}
use Rattle.std.specs.Str.{bytes_eq}
use Rattle.std.proofs.lemmas.Bool.{cases_eq, eqb-true, eq-eqb, ne_eqb}
use Rattle.std.proofs.lemmas.Slice.Eq.{bytes_eq-Decides}
use Rattle.std.proofs.lemmas.List.{length-map, get_or-map}
use Rattle.std.proofs.lemmas.List.FromFn.{get_or-range_with_len, length-range_with_len}
use Rattle.std.proofs.lemmas.List.Elements.{All-head, All-tail, All-contains, All-contains_itself, All-map, All-weaker}
use Rattle.std.proofs.lemmas.List.Elements.{Contains-get_or}
use Rattle.std.proofs.lemmas.List.Sums.{passes_at_first}
use Rattle.std.proofs.lemmas.List.Filters.{length-filter_both}
use Rattle.base.proofs.Laws.{filter_keeps, filter_of, contains_map}
use Rattle.song_model.specs.declared.rows.Row.{Row}
use Rattle.song_model.specs.declared.patterns.TheConstants.{MOST_PATTERNS}
use Rattle.song_model.specs.declared.tables.TheConstants.{MOST_TABLE_ROWS}
use Rattle.song_model.specs.declared.tables.TableName.{TableName}
use Rattle.song_model.specs.declared.tables.TableName.TheVariants.{Wave, Pulse, Filter, Speed}
use Rattle.song_model.specs.declared.songs.Song.{Song}
use Rattle.song_model.specs.Basics.{IsByte}
use Rattle.song_model.specs.PatternLimits.{IsRow, IsPatternLength, IsPattern}
use Rattle.song_model.specs.Endless.{IsPatternByte}
use Rattle.song_model.specs.Limits.{KeepsLimits}
use Rattle.song_model.specs.LookUp.{speed_row, pattern_at}
use Rattle.song_model.specs.Pointers.{command_table}
use Rattle.song_model.proofs.Laws.{pattern_rows_in_range}
use Rattle.play_model.specs.Used.{IsUsedPattern, IsUsedRow}
use Rattle.play_model.specs.Reached.{IsReached, played, of_row}
use Rattle.play_model.specs.Playable.{IsPlayable}
use Rattle.play_model.proofs.Laws.{whole_lem}
use Rattle.same_frames.specs.Maps.{moved_pointer, named_after, AreRowsFor, IsPatternFor}
use Rattle.packed_form.specs.declared.packed_songs.PackedSong.{PackedSong}
use Rattle.packed_form.specs.Normal.{last_instrument, normal_row, normal_from, normal_rows}
use Rattle.packed_form.specs.PackedSpells.{PackedSpells}
use Rattle.packed_form.specs.PackedText.{packed_text}
use Rattle.packing_rules.specs.Segments.{numbers}
use Rattle.packing_rules.specs.UsedSets.{UsedSets, AreUsedSets}
use Rattle.packing_rules.specs.Renumbering.{first_seen, same_row, speed_rows, pointer_number, table_number}
use Rattle.packing_rules.specs.Renumbering.{instrument_number, renumbered_row, pattern_text, pattern_texts}
use Rattle.packing_rules.specs.Renumbering.{pattern_number}
use Rattle.packed_form.specs.Unpacked.{rows_or_none, unpacked_pattern, unpacked_song}
use Rattle.packing_rules.proofs.Laws.{place_there, first_seen_has, first_seen_length, first_seen_all, no_instrument}
use Rattle.pattern_pack.proofs.Laws.{packed_is_spelled, spelled_is_unpacked}
use Rattle.song_pack.specs.Packed.{new_numbers, IsPacked}
use Rattle.same_frames.proofs.Laws.{image_of}
use Rattle.song_pack.proofs.StoredTables.{tables_agree, all_programs_agree}
use Rattle.song_pack.proofs.StoredInstruments.{number_small, instruments_agree}

-- ---- texts

pub same_text : (one other : List ℕ) → bytes_eq one other ≡ true → one ≡ other
same_text one other is = (bytes_eq-Decides one other).0 is

pub text_itself : (text : List ℕ) → bytes_eq text text ≡ true
text_itself text = (bytes_eq-Decides text text).1 refl

pub filter_few : {X : Type 0} (p : X → Bool) (xs : List X) → length (filter p xs) ≤ length xs
filter_few p xs =
    let both = length-filter_both p (λ x. not (p x)) (λ x. refl) xs in
    omega arith

in_range : (n i : ℕ) → i < n → Contains (range_with_len 0 n) i
in_range n i low = (
  i,
  subst (λ (k : ℕ). i < k) (sym (length-range_with_len 0 n)) low,
  get_or-range_with_len 0 n i i low ∙ omega arith,
)

-- ---- rows

-- what a row's numbers become
pub record NumbersFit (song : Song) (used : UsedSets) (row : Row) : Type 0 where
  pub instrument : row.instrument ≢ 0 → instrument_number song used row.instrument ≢ 0
  pub small : instrument_number song used row.instrument ≤ 0x3F
  pub param : (name : TableName) → command_table row.command ≡ Some name → IsByte
      (table_number song used name row.param)

pointer_is : (song : Song) (used : UsedSets) (t : Option TableName) (p : ℕ) →
    pointer_number (table_number song used) t p ≡ moved_pointer (new_numbers song used) t p
pointer_is song used None p = refl
pointer_is song used (Some name) p = refl

row_fits : (song : Song) (used : UsedSets) (row : Row) → IsRow row → NumbersFit song used row →
    IsRow (renumbered_row song used row)
row_fits song used row is fits = record {
  note_from = is.note_from;
  note_to = is.note_to;
  instrument = fits.small;
  command = is.command;
  param = param_fits (command_table row.command) refl;
}
  where
    param_fits : (t : Option TableName) → command_table row.command ≡ t →
        IsByte (pointer_number (table_number song used) (command_table row.command) row.param)
    param_fits None e = rw e is.param
    param_fits (Some name) e = rw e (fits.param name e)

-- a normal row, behind rows whose last instrument is the new number of this one
named_normal : (song : Song) (used : UsedSets) (last instrument : ℕ) (n m : ℕ) →
    n ≡ instrument_number song used instrument →
    m ≡ instrument_number song used last → (instrument ≢ 0 → n ≢ 0) →
    (if (if n == m then 0 else n) == 0 then m else (if n == m then 0 else n))
    ≡ instrument_number song used (if instrument == 0 then last else instrument)
named_normal song used last instrument n m n_is m_is some = elim (cases_eq instrument 0) [
  | inl none ↦ (
      let e = eq-eqb instrument 0 none in
      let zero_too : n ≡ 0 = n_is ∙ ap (instrument_number song used) none ∙ no_instrument song used in
      rw e (rw zero_too (by_same (0 == m) refl)))
  | inr one ↦ (
      let e = ne_eqb instrument 0 one in
      let f = ne_eqb n 0 (some one) in
      rw e (by_named (n == m) refl f))
]
  where
    by_same : (b : Bool) → (0 == m) ≡ b → (if (if 0 == m then 0 else 0) == 0 then m else (if 0 == m then 0 else 0)) ≡
        instrument_number song used last
    by_same true e = rw e m_is
    by_same false e = rw e m_is

    by_named : (b : Bool) → (n == m) ≡ b → (n == 0) ≡ false →
        (if (if n == m then 0 else n) == 0 then m else (if n == m then 0 else n))
        ≡ instrument_number song used instrument
    by_named true e f = rw e (sym (eqb-true n m e) ∙ n_is)
    by_named false e f = rw e (rw f n_is)

-- the last instrument of renumbered rows
last_renumbered : (song : Song) (used : UsedSets) (last instrument n m : ℕ) →
    n ≡ instrument_number song used instrument →
    m ≡ instrument_number song used last → (instrument ≢ 0 → n ≢ 0) →
    (if n == 0 then m else n) ≡ instrument_number song used (if instrument == 0 then last else instrument)
last_renumbered song used last instrument n m n_is m_is some = elim (cases_eq instrument 0) [
  | inl none ↦ (
      let e = eq-eqb instrument 0 none in
      let zero_too : n ≡ 0 = n_is ∙ ap (instrument_number song used) none ∙ no_instrument song used in
      rw e (rw zero_too m_is))
  | inr one ↦ (
      let e = ne_eqb instrument 0 one in
      let f = ne_eqb n 0 (some one) in
      rw e (rw f n_is))
]

rows_for : (song : Song) (used : UsedSets) (last m : ℕ) (rows : List Row) → m ≡ instrument_number song used last →
    All (NumbersFit song used) rows →
    AreRowsFor (new_numbers song used) last rows (normal_from m (map (renumbered_row song used) rows))
rows_for song used last m [] m_is all = tt
rows_for song used last m (row ∷ rows) m_is all =
    let fits = All-head (NumbersFit song used) row rows all in
    let n = instrument_number song used row.instrument in (
      record {
        note = refl;
        instrument = ap (λ (k : ℕ). named_after k (normal_row m (renumbered_row song used row))) (sym m_is)
            ∙ named_normal song used last row.instrument n m refl m_is fits.instrument;
        command = refl;
        param = λ some.
            let e = ne_eqb row.command 0 some in
            rw e (pointer_is song used (command_table row.command) row.param);
      },
      rows_for song used (named_after last row) (last_instrument m (renumbered_row song used row)) rows
          (last_renumbered song used last row.instrument n m refl m_is fits.instrument)
          (All-tail (NumbersFit song used) row rows all),
    )

-- ---- patterns

module _ (song : Song) (used : UsedSets) (packed : PackedSong) (are : AreUsedSets song used)
    (is : IsPacked song used packed)
  where
    pub texts : List (List ℕ)
    texts = pattern_texts song used

    pub stored : List (List ℕ)
    stored = first_seen bytes_eq texts

    pub text : ℕ → List ℕ
    text n = pattern_text song used n

    has_text : (n : ℕ) → IsUsedPattern song n → Contains texts (text n)
    unfolding texts text pattern_texts
    has_text n is_used =
        contains_map (pattern_text song used) (filter used.patterns (range_with_len 0 MOST_PATTERNS)) n
        (filter_keeps used.patterns (range_with_len 0 MOST_PATTERNS) n
        (in_range MOST_PATTERNS n is_used.is_pattern) ((are.patterns n).1 is_used))

    number_is : (n : ℕ) → pattern_number song used n ≡ position_or_len (bytes_eq (text n)) stored
    unfolding pattern_number text stored texts
    number_is n = refl

    number_low : (n : ℕ) → IsUsedPattern song n → pattern_number song used n < length stored
    unfolding stored
    number_low n is_used =
        subst (λ (k : ℕ). k < length stored) (sym (number_is n))
        (place_there (bytes_eq (text n)) stored
        (first_seen_has bytes_eq same_text text_itself texts (text n) (has_text n is_used)))

    text_stored : (n : ℕ) → IsUsedPattern song n → get_or stored (pattern_number song used n) [] ≡ text n
    text_stored n is_used =
        let low = subst (λ (k : ℕ). k < length stored) (number_is n) (number_low n is_used) in
        ap (λ (k : ℕ). get_or stored k []) (number_is n)
        ∙ sym (same_text (text n) (get_or stored (position_or_len (bytes_eq (text n)) stored) [])
        (passes_at_first (bytes_eq (text n)) stored [] low))

    pub few_texts : length stored ≤ MOST_PATTERNS
    unfolding stored texts pattern_texts
    few_texts =
        let seen = first_seen_length bytes_eq texts in
        let count = length-map (filter used.patterns (range_with_len 0 MOST_PATTERNS)) (pattern_text song used) in
        let kept = filter_few used.patterns (range_with_len 0 MOST_PATTERNS) in
        let all = length-range_with_len 0 MOST_PATTERNS in
        omega arith

    pub packed_is : packed.patterns ≡ stored
    unfolding stored texts
    packed_is = is.patterns

    pub pattern_stored : (n : ℕ) → IsUsedPattern song n →
        pattern_number song used n < length (unpacked_song packed).patterns
    pattern_stored n is_used =
        let low = number_low n is_used in
        let count = length-map packed.patterns unpacked_pattern in
        let e = ap length packed_is in
        omega arith

    pub pattern_small : (n : ℕ) → IsUsedPattern song n → IsPatternByte (pattern_number song used n)
    pattern_small n is_used =
        let low = number_low n is_used in
        let few = few_texts in
        omega arith

    pattern_is : (n : ℕ) → IsUsedPattern song n →
        pattern_at (unpacked_song packed) (pattern_number song used n) ≡ unpacked_pattern (text n)
    unfolding pattern_at
    pattern_is n is_used =
        let low = number_low n is_used in
        ap (λ (all : List (List ℕ)). get_or (map unpacked_pattern all) (pattern_number song used n) []) packed_is
        ∙ get_or-map unpacked_pattern stored (pattern_number song used n) [] [] low
        ∙ ap unpacked_pattern (text_stored n is_used)

    -- ---- rows

    module _ (limits : KeepsLimits song) (play : IsPlayable song) where
      pub speeds_few : length packed.speed ≤ 255
      unfolding speed_rows
      speeds_few =
          let seen = first_seen_length same_row
          (map (speed_row song) (filter (used.pointers Speed) (numbers MOST_TABLE_ROWS))) in
          let count = length-map (filter (used.pointers Speed) (numbers MOST_TABLE_ROWS)) (speed_row song) in
          let kept = filter_few (used.pointers Speed) (numbers MOST_TABLE_ROWS) in
          let all = length-range_with_len 1 MOST_TABLE_ROWS in
          let e = ap length is.speed.rows_are in
          omega arith

      pub number_fits : (name : TableName) (p : ℕ) → IsReached song name p → IsByte (table_number song used name p)
      number_fits Wave p reached = (all_programs_agree song used packed limits play are is Wave (λ e. cc)).small p
          reached
      number_fits Pulse p reached = (all_programs_agree song used packed limits play are is Pulse (λ e. cc)).small p
          reached
      number_fits Filter p reached = (all_programs_agree song used packed limits play are is Filter (λ e. cc)).small p
          reached
      number_fits Speed p reached =
          let last = ((tables_agree song used packed play are is Speed).stored p reached).last in
          let few = speeds_few in
          omega arith

      used_row_fits : (row : Row) → IsRow row → IsUsedRow song row → NumbersFit song used row
      used_row_fits row is_row is_used = record {
        instrument = λ some.
            (instruments_agree song used packed limits are is).some row.instrument
            (inr (record { row = row; used = is_used; names = refl; some = some }));
        small = number_small song used row.instrument;
        param = λ name command. elim (cases_eq row.param 0) [
          | inl none ↦ (
              let e : table_number song used name row.param ≡ 0 =
              ap (table_number song used name) none ∙ (tables_agree song used packed play are is name).rows.nothing in
              omega arith)
          | inr some ↦ number_fits name row.param (played (of_row row is_used command refl some))
        ];
      }

      rows_fit : (n : ℕ) → IsUsedPattern song n → All (NumbersFit song used) (pattern_at song n)
      rows_fit n is_used =
          All-weaker (Contains (pattern_at song n)) (NumbersFit song used)
          (λ row has. used_row_fits row
          (All-contains IsRow (pattern_at song n) row (pattern_rows_in_range song n limits) has)
          (record { pattern = n; used = is_used; has = has })) (pattern_at song n)
          (All-contains_itself (pattern_at song n))

      renumbered : ℕ → List Row
      renumbered n = map (renumbered_row song used) (pattern_at song n)

      old_pattern : (n : ℕ) → IsUsedPattern song n → IsPattern (pattern_at song n)
      unfolding pattern_at
      old_pattern n is_used =
          All-contains IsPattern song.patterns (get_or song.patterns n []) limits.patterns.each
          (Contains-get_or song.patterns n [] ((whole_lem song play).pattern n is_used))

      pub pattern_fits : (n : ℕ) → IsUsedPattern song n → IsPattern (map (renumbered_row song used) (pattern_at song n))
      pattern_fits n is_used =
          let old = old_pattern n is_used in
          record {
            count = subst IsPatternLength (sym (length-map (pattern_at song n) (renumbered_row song used))) old.count;
            each = All-map IsRow (renumbered_row song used) (pattern_at song n)
                (All-weaker (Contains (pattern_at song n)) (λ row. IsRow (renumbered_row song used row))
                (λ row has.
                let is_row = All-contains IsRow (pattern_at song n) row old.each has in
                row_fits song used row is_row
                (used_row_fits row is_row (record { pattern = n; used = is_used; has = has })))
                (pattern_at song n) (All-contains_itself (pattern_at song n)));
          }

      unpacks_to : (n : ℕ) → IsUsedPattern song n → unpacked_pattern (text n) ≡ normal_rows (renumbered n)
      unfolding unpacked_pattern text pattern_text renumbered
      unpacks_to n is_used =
          ap rows_or_none (spelled_is_unpacked (packed_text (renumbered n)) (normal_rows (renumbered n))
          (packed_is_spelled (renumbered n) (pattern_fits n is_used)))

      pub pattern_agrees : (n : ℕ) → IsUsedPattern song n →
          IsPatternFor (new_numbers song used) (pattern_at song n)
          (pattern_at (unpacked_song packed) (pattern_number song used n))
      unfolding renumbered
      pattern_agrees n is_used = record {
        each = subst (AreRowsFor (new_numbers song used) 0 (pattern_at song n))
            (sym (pattern_is n is_used ∙ unpacks_to n is_used))
            (rows_for song used 0 0 (pattern_at song n) (sym (no_instrument song used)) (rows_fit n is_used));
      }

      spelled_from : (n : ℕ) → IsUsedPattern song n → PackedSpells (text n) (unpacked_pattern (text n))
      unfolding text pattern_text renumbered
      spelled_from n is_used =
          subst (PackedSpells (text n)) (sym (unpacks_to n is_used))
          (packed_is_spelled (renumbered n) (pattern_fits n is_used))

      -- each stored pattern is the text of a used one
      pub pattern_spelled : (bytes : List ℕ) → Contains packed.patterns bytes → PackedSpells bytes
          (unpacked_pattern bytes)
      unfolding stored texts text pattern_texts
      pattern_spelled bytes has =
          let there = subst (λ (all : List (List ℕ)). Contains all bytes) packed_is has in
          let image = image_of (pattern_text song used) (filter used.patterns (range_with_len 0 MOST_PATTERNS)) bytes
          (All-contains (Contains texts) stored bytes
          (first_seen_all (Contains texts) bytes_eq texts (All-contains_itself texts)) there) in
          let kept = filter_of used.patterns (range_with_len 0 MOST_PATTERNS) image.from image.has in
          subst (λ (x : List ℕ). PackedSpells x (unpacked_pattern x)) image.is
          (spelled_from image.from ((are.patterns image.from).0 kept.1))
