-- What is made of a song, part by part, is its packed song.
use Rattle.std.proofs.Common.{◌≡◌, ℕ, ◌<◌, ◌≤◌, List, [], ◌∷◌, ◌++◌, map, length}
use Rattle.std.proofs.Common.{slice_index, Contains, refl, sym, ◌∙◌, ap, subst, inl, inr, arith}
use Rattle.std.specs.List.{filter, range_with_len, position_or_len}
use Rattle.std.specs.Str.{bytes_eq}
use Rattle.std.proofs.lemmas.Bool.{cases_lt, lt-ltb, le-ltb}
use Rattle.std.proofs.lemmas.List.Elements.{All-contains_itself, All-weaker}
use mathlib.Core.Path.{fun_ext}
use Rattle.song_model.specs.declared.rows.Row.{Row}
use Rattle.song_model.specs.declared.orders.Order.{Order}
use Rattle.song_model.specs.declared.orders.Subtune.{Subtune}
use Rattle.song_model.specs.declared.patterns.TheConstants.{MOST_PATTERNS}
use Rattle.song_model.specs.declared.tables.TableName.{TableName}
use Rattle.song_model.specs.declared.features.FeatureBits.{FeatureBits}
use Rattle.song_model.specs.declared.songs.Song.{Song}
use Rattle.song_model.specs.PatternLimits.{IsRow}
use Rattle.song_model.specs.Limits.{KeepsLimits}
use Rattle.song_model.specs.LookUp.{instrument_at, pattern_at, playable_subtunes}
use Rattle.song_model.specs.Pointers.{command_table}
use Rattle.song_model.proofs.Laws.{pattern_rows_in_range}
use Rattle.play_model.specs.Used.{IsPlayedOrder, IsUsedPattern}
use Rattle.play_model.specs.Features.{AreFeatures}
use Rattle.song_facts.specs.Facts.{AreFacts}
use Rattle.asked_numbers.specs.Range.{IsNumberRange}
use Rattle.usage.specs.declared.parts.UsedParts.{UsedParts}
use Rattle.usage.specs.Parts.{AreUsedParts}
use Rattle.packed_form.specs.declared.packed_songs.PackedSubtune.{PackedSubtune}
use Rattle.packed_form.specs.declared.packed_songs.PackedInstrument.{PackedInstrument}
use Rattle.packed_form.specs.declared.packed_songs.PackedSong.{PackedSong}
use Rattle.packed_form.specs.declared.packed_patterns.TheConstants.{MOST_PACKED_BYTES}
use Rattle.packed_form.specs.PackedText.{packed_text}
use Rattle.packing_rules.specs.Renumbering.{first_seen, pointer_number, table_number, instruments_in_order}
use Rattle.packing_rules.specs.Renumbering.{place_in, instrument_number}
use Rattle.packing_rules.specs.Renumbering.{renumbered_row, pattern_text, pattern_texts, pattern_number}
use Rattle.packing_rules.proofs.Laws.{instruments_few}
use Rattle.table_pack.specs.Marks.{is_marked}
use Rattle.song_pack.specs.declared.tables.PackedTables.{PackedTables}
use Rattle.song_pack.specs.Numbers.{sets_of, row_of, numbered_row}
use Rattle.song_pack.specs.Packed.{order_byte, order_bytes, packed_subtune, packed_instrument}
use Rattle.song_pack.specs.Packed.{AreSpeeds, IsPacked}
use Rattle.song_pack.specs.Tables.{AreTables}
use Rattle.song_pack.specs.declared.faults.PackFault.{PackFault}
use Rattle.song_pack.specs.declared.faults.PackFault.TheVariants.{PatternTooLong, NoMemory}
use Rattle.song_pack.specs.Answers.{AreShort, IsCause}
use Rattle.song_pack.specs.Texts.{text_under, texts_below, ArePatterns, IsCaused}
use Rattle.song_pack.proofs.UsedParts.{channel_played}
use Rattle.song_pack.proofs.PlayedOrders.{map_same}

-- ---- instruments in their order

-- there are no more than a song may have
pub order_few : (song : Song) (parts : UsedParts) (order : List ℕ) → order ≡ instruments_in_order song (sets_of parts) →
    length order ≤ 63
order_few song parts order order_is =
    let long = ap length order_is in
    let few = instruments_few song (sets_of parts) in
    omega arith

-- what is made of them is packed in that order
pub placed : (song : Song) (parts : UsedParts) (tables : PackedTables) (order : List ℕ)
    (instruments : List PackedInstrument) → order ≡ instruments_in_order song (sets_of parts) →
    instruments ≡ map (λ n. packed_instrument (row_of tables.numbers) (instrument_at song n)) order →
    instruments
    ≡ map (λ n. packed_instrument (row_of tables.numbers) (instrument_at song n))
    (instruments_in_order song (sets_of parts))
placed song parts tables order instruments order_is are =
    are ∙ ap (map (λ n. packed_instrument (row_of tables.numbers) (instrument_at song n))) order_is

-- their places are their new numbers
pub numbered : (song : Song) (parts : UsedParts) (order numbers : List ℕ) →
    order ≡ instruments_in_order song (sets_of parts) →
    ((n : ℕ) → n < 64 → slice_index numbers n ≡ place_in order n) → (n : ℕ) → n < 64 →
    slice_index numbers n ≡ instrument_number song (sets_of parts) n
unfolding instrument_number
numbered song parts order numbers order_is places n low =
    places n low ∙ ap (λ (items : List ℕ). place_in items n) order_is

-- ---- packed songs

-- a packed song was made of these parts
pub record IsMadeOf (song : Song) (parts : UsedParts) (tables : PackedTables) (numbers to : List ℕ)
    (packed : PackedSong)
    : Type 0 where
  pub wave : packed.wave ≡ tables.wave
  pub pulse : packed.pulse ≡ tables.pulse
  pub filter : packed.filter ≡ tables.filter
  pub speed : packed.speed ≡ tables.speed
  pub instruments : packed.instruments
      ≡ map (λ n. packed_instrument (row_of tables.numbers) (instrument_at song n))
      (instruments_in_order song (sets_of parts))
  pub patterns : ArePatterns (text_under song tables.numbers numbers) (is_marked parts.patterns) packed.patterns to
  pub subtunes : packed.subtunes ≡ map (packed_subtune (slice_index to)) (playable_subtunes song)
  pub features : packed.features ≡ parts.features
  pub facts : packed.facts ≡ parts.facts
  pub range : IsNumberRange song packed.numbers

module _ (song : Song) (parts : UsedParts) (limits : KeepsLimits song) (are : AreUsedParts song parts) where
  -- ---- numbers of rows

  module _ (tables : PackedTables) (numbers : List ℕ) (tables_are : AreTables song (sets_of parts) tables)
      (numbers_are : (n : ℕ) → n < 64 → slice_index numbers n ≡ instrument_number song (sets_of parts) n) where
    row_numbers_are : row_of tables.numbers ≡ table_number song (sets_of parts)
    row_numbers_are = fun_ext (λ (name : TableName). fun_ext (λ (p : ℕ). tables_are.numbers name p))

    row_is : (row : Row) → IsRow row →
        numbered_row (row_of tables.numbers) (slice_index numbers) row ≡ renumbered_row song (sets_of parts) row
    row_is row range =
        let small = range.instrument in
        let instrument = numbers_are row.instrument (omega arith) in
        ap (λ (n : ℕ). record row
        { instrument = n; param = pointer_number (row_of tables.numbers) (command_table row.command) row.param })
        instrument
        ∙ ap (λ (f : TableName → ℕ → ℕ). record row {
          instrument = instrument_number song (sets_of parts) row.instrument;
          param = pointer_number f
              (command_table row.command) row.param;
        }) row_numbers_are

    -- the text of a pattern
    pub text_is : (p : ℕ) → text_under song tables.numbers numbers p ≡ pattern_text song (sets_of parts) p
    unfolding text_under pattern_text
    text_is p =
        ap packed_text
        (map_same (numbered_row (row_of tables.numbers) (slice_index numbers)) (renumbered_row song (sets_of parts))
        (pattern_at song p)
        (All-weaker IsRow
        (λ row. numbered_row (row_of tables.numbers) (slice_index numbers) row ≡ renumbered_row song (sets_of parts)
        row)
        row_is (pattern_at song p) (pattern_rows_in_range song p limits)))

    texts_are : texts_below (text_under song tables.numbers numbers) (is_marked parts.patterns) MOST_PATTERNS
        ≡ pattern_texts song (sets_of parts)
    unfolding texts_below pattern_texts
    texts_are =
        ap (λ (f : ℕ → List ℕ). map f (filter (is_marked parts.patterns) (range_with_len 0 MOST_PATTERNS)))
        (fun_ext text_is)

    -- ---- numbers of patterns

    module _ (patterns : List (List ℕ)) (to : List ℕ)
        (patterns_are : ArePatterns (text_under song tables.numbers numbers) (is_marked parts.patterns) patterns to)
      where
        list_is : patterns ≡ first_seen bytes_eq (pattern_texts song (sets_of parts))
        list_is = patterns_are.list_are ∙ ap (first_seen bytes_eq) texts_are

        number_is : (p : ℕ) → IsUsedPattern song p → slice_index to p ≡ pattern_number song (sets_of parts) p
        unfolding pattern_number
        number_is p is_used =
            patterns_are.number p ((are.patterns.each p).1 is_used) is_used.is_pattern
            ∙ ap (λ (t : List ℕ). position_or_len (bytes_eq t) patterns) (text_is p)
            ∙ ap (position_or_len (bytes_eq (pattern_text song (sets_of parts) p))) list_is

        byte_is : (byte : ℕ) → (byte < 0xD0 → IsUsedPattern song byte) →
            order_byte (slice_index to) byte ≡ order_byte (pattern_number song (sets_of parts)) byte
        byte_is byte is_used = elim (cases_lt byte 0xD0) [
          | inl low ↦ (let e = lt-ltb byte 0xD0 low in rw e (number_is byte (is_used low)))
          | inr high ↦ (let e = le-ltb byte 0xD0 high in rw e refl)
        ]

        order_is : (order : Order) → IsPlayedOrder song order →
            order_bytes (slice_index to) order ≡ order_bytes (pattern_number song (sets_of parts)) order
        order_is order o =
            ap (λ (entries : List ℕ). entries ++ 0xFF ∷ order.restart ∷ [])
            (map_same (order_byte (slice_index to)) (order_byte (pattern_number song (sets_of parts))) order.entries
            (All-weaker (Contains order.entries)
            (λ byte. order_byte (slice_index to) byte ≡ order_byte (pattern_number song (sets_of parts)) byte)
            (λ byte has. byte_is byte
            (λ low. record { byte = record { order = order; played = o; entry = has }; is_pattern = low }))
            order.entries (All-contains_itself order.entries)))

        subtune_is : (subtune : Subtune) → Contains (playable_subtunes song) subtune →
            packed_subtune (slice_index to) subtune ≡ packed_subtune (pattern_number song (sets_of parts)) subtune
        subtune_is subtune has =
            let old = slice_index to in
            let new = pattern_number song (sets_of parts) in
            let with_one : List ℕ → PackedSubtune = λ bytes. record {
              one = bytes;
              two = order_bytes old subtune.two;
              three = order_bytes old subtune.three;
            } in
            let with_two : List ℕ → PackedSubtune = λ bytes. record {
              one = order_bytes new subtune.one;
              two = bytes;
              three = order_bytes old subtune.three;
            } in
            let with_three : List ℕ → PackedSubtune = λ bytes. record {
              one = order_bytes new subtune.one;
              two = order_bytes new subtune.two;
              three = bytes;
            } in
            ap with_one
            (order_is subtune.one (channel_played song subtune 1 has (record { first = omega arith; last = omega arith })))
            ∙ ap with_two
            (order_is subtune.two (channel_played song subtune 2 has (record { first = omega arith; last = omega arith })))
            ∙ ap with_three
            (order_is subtune.three
            (channel_played song subtune 3 has (record { first = omega arith; last = omega arith })))

        subtunes_are : map (packed_subtune (slice_index to)) (playable_subtunes song)
            ≡ map (packed_subtune (pattern_number song (sets_of parts))) (playable_subtunes song)
        subtunes_are =
            map_same (packed_subtune (slice_index to)) (packed_subtune (pattern_number song (sets_of parts)))
            (playable_subtunes song)
            (All-weaker (Contains (playable_subtunes song))
            (λ s. packed_subtune (slice_index to) s ≡ packed_subtune (pattern_number song (sets_of parts)) s) subtune_is
            (playable_subtunes song) (All-contains_itself (playable_subtunes song)))

    -- ---- the packed song

    pub made_is_packed : (to : List ℕ) (packed : PackedSong) → IsMadeOf song parts tables numbers to packed →
        IsPacked song (sets_of parts) packed
    made_is_packed to packed made = record {
      subtunes = made.subtunes ∙ subtunes_are packed.patterns to made.patterns;
      patterns = list_is packed.patterns to made.patterns;
      instruments = made.instruments
          ∙ ap (λ (f : TableName → ℕ → ℕ). map (λ n. packed_instrument f (instrument_at song n))
          (instruments_in_order song (sets_of parts))) row_numbers_are;
      wave = made.wave ∙ tables_are.wave;
      pulse = made.pulse ∙ tables_are.pulse;
      filter = made.filter ∙ tables_are.filter;
      speed = subst (AreSpeeds song (is_marked parts.speed)) (sym made.speed) tables_are.speed;
      features = subst (λ (f : FeatureBits). AreFeatures song f.0) (sym made.features) are.features;
      facts = subst (AreFacts song) (sym made.facts) are.facts;
      numbers = made.range;
    }

    -- ---- patterns that are too long

    pub made_short : (patterns : List (List ℕ)) (to : List ℕ) →
        ArePatterns (text_under song tables.numbers numbers) (is_marked parts.patterns) patterns to →
        AreShort song (sets_of parts)
    made_short patterns to made p is_used =
        subst (λ (t : List ℕ). length t ≤ MOST_PACKED_BYTES) (text_is p)
        (made.short p ((are.patterns.each p).1 is_used) is_used.is_pattern)

    pub made_cause : (fault : PackFault) →
        IsCaused (text_under song tables.numbers numbers) (is_marked parts.patterns) fault →
        IsCause song (sets_of parts) fault
    made_cause (PatternTooLong pattern n) long = record {
      is_used = (are.patterns.each pattern).0 long.is_used;
      text = ap length (sym (text_is pattern)) ∙ long.text_is;
      long = long.long;
      first = λ p low is_used.
          subst (λ (t : List ℕ). length t ≤ MOST_PACKED_BYTES) (text_is p)
          (long.first p low ((are.patterns.each p).1 is_used));
    }
    made_cause NoMemory long = tt
