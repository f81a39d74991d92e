-- The lists of a packed song: where each one stands in the bytes of all, and how many these are.
use Rattle.std.proofs.Common.{◌≡◌, ℕ, ◌+◌, ◌-◌, ◌*◌, ◌/◌, ◌%◌, ◌≤◌, Bool, true, false, List, [], ◌∷◌}
use Rattle.std.proofs.Common.{◌++◌, length, map, max, if◌then◌else◌}
use Rattle.std.proofs.Common.{refl, sym, ap, ◌∙◌, arith, length-append}
use Rattle.std.specs.Prelude.{sum_by}
use Rattle.std.specs.List.{concat, range_with_len}
use Rattle.std.proofs.lemmas.List.{length-map, length-replicate, map-id}
use Rattle.std.proofs.lemmas.List.FromFn.{length-range_with_len, sum_by-map-range_with_len_more}
use Rattle.song_model.specs.LookUp.{instrument_at}
use Rattle.play_model.specs.Freq.{freq}
use Rattle.song_facts.specs.Facts.{timer_of}
use Rattle.song_facts.specs.declared.hold.Hold.{Hold}
use Rattle.song_facts.specs.declared.hold.Hold.TheVariants.{Envelope, Gate}
use Rattle.packed_form.specs.declared.packed_songs.PackedSong.{PackedSong}
use Rattle.packed_form.specs.Sizes.{list_size, subtune_size}
use Rattle.packed_form.specs.Unpacked.{unpacked_instrument, unpacked_song}
use Rattle.packed_form.specs.Holders.{first_holder}
use Rattle.player_memory.specs.Forms.{stored}
use Rattle.player_memory.specs.SongLists.{is_read, unread, unread_size, unlisted_size, shared_size, bytes_in_front}
use Rattle.player_memory.specs.SongLists.{gap_size}
use Rattle.player_memory.specs.SongLists.{instrument_byte, has_gate_from, has_envelope_from}
use Rattle.song_lists.specs.DataLists.{frequency_lows, frequency_highs, lefts, rights, stored_rows, periods}
use Rattle.song_lists.specs.DataLists.{kept_list, kept_rows, field_bytes, instrument_bytes, field_size, fields_before}
use Rattle.song_lists.specs.DataLists.{one_timer_bytes, one_wave_bytes, gate_from_bytes, envelope_from_bytes}
use Rattle.song_lists.specs.DataLists.{one_timer_size, one_wave_size, gate_from_size, all_orders, lows, highs}
use Rattle.song_lists.specs.DataLists.{orders_place, patterns_place, frequencies_place, bytes_back}
use Rattle.song_lists.specs.DataLists.{gap_bytes, frequency_lists}
use Rattle.song_lists.specs.DataLists.{listed_orders, order_places, listed_places, pattern_places, data_bytes}
use Rattle.song_lists.specs.ListLaws.{lists_size}
use Rattle.song_lists.proofs.Pieces.{concat-append, size_all, places_count, orders_count, orders_size, texts_size}

-- ---- the lists that each song has

abbrev pub fixed_lists : Bool → PackedSong → ℕ → List (List ℕ)
fixed_lists dependent packed start =
    (0 ∷ rights packed.speed) ∷ (0 ∷ lefts packed.speed)
    ∷ kept_list dependent (rights packed.speed) ∷ kept_list dependent (lefts packed.speed)
    ∷ kept_list dependent (periods packed.speed)
    ∷ lefts (stored_rows packed.wave) ∷ rights (stored_rows packed.wave) ∷ lefts packed.pulse ∷ rights packed.pulse
    ∷ lefts packed.filter ∷ rights packed.filter
    ∷ instrument_bytes packed 0 ∷ instrument_bytes packed 1 ∷ instrument_bytes packed 2
    ∷ instrument_bytes packed 3 ∷ instrument_bytes packed 4 ∷ instrument_bytes packed 5
    ∷ instrument_bytes packed 6 ∷ instrument_bytes packed 7 ∷ instrument_bytes packed 8
    ∷ one_timer_bytes packed ∷ one_wave_bytes packed ∷ gate_from_bytes packed ∷ envelope_from_bytes packed
    ∷ lows start 0 (listed_places dependent packed) ∷ highs start 0 (listed_places dependent packed)
    ∷ lows start 1 (pattern_places dependent packed) ∷ highs start 1 (pattern_places dependent packed) ∷ []

-- and those that are its own
abbrev pub own_lists : PackedSong → List (List ℕ)
own_lists packed = all_orders packed ++ (packed.patterns ++ frequency_lists packed)

-- ---- lengths

numbers_count : (f : ℕ → ℕ) (from n : ℕ) → length (map f (range_with_len from n)) ≡ n
numbers_count f from n = length-map (range_with_len from n) f ∙ length-range_with_len from n

pub lows_count : (packed : PackedSong) → length (frequency_lows packed) ≡ packed.numbers.count
unfolding frequency_lows
lows_count packed = numbers_count (λ n. freq n % 256) packed.numbers.first packed.numbers.count

pub highs_count : (packed : PackedSong) → length (frequency_highs packed) ≡ packed.numbers.count
unfolding frequency_highs
highs_count packed = numbers_count (λ n. freq n / 256) packed.numbers.first packed.numbers.count

pub record Lengths (dependent : Bool) (packed : PackedSong) (start : ℕ) : Type 0 where
  pub speed_rights : length (rights packed.speed) ≡ length packed.speed
  pub speed_lefts : length (lefts packed.speed) ≡ length packed.speed
  pub slides_low : length (kept_list dependent (rights packed.speed)) ≡ kept_rows dependent packed
  pub slides_high : length (kept_list dependent (lefts packed.speed)) ≡ kept_rows dependent packed
  pub periods : length (kept_list dependent (periods packed.speed)) ≡ kept_rows dependent packed
  pub wave_lefts : length (lefts (stored_rows packed.wave)) ≡ length packed.wave
  pub wave_rights : length (rights (stored_rows packed.wave)) ≡ length packed.wave
  pub pulse_lefts : length (lefts packed.pulse) ≡ length packed.pulse
  pub pulse_rights : length (rights packed.pulse) ≡ length packed.pulse
  pub filter_lefts : length (lefts packed.filter) ≡ length packed.filter
  pub filter_rights : length (rights packed.filter) ≡ length packed.filter
  pub first : length (instrument_bytes packed 0) ≡ field_size packed 0
  pub second : length (instrument_bytes packed 1) ≡ field_size packed 1
  pub third : length (instrument_bytes packed 2) ≡ field_size packed 2
  pub fourth : length (instrument_bytes packed 3) ≡ field_size packed 3
  pub fifth : length (instrument_bytes packed 4) ≡ field_size packed 4
  pub sixth : length (instrument_bytes packed 5) ≡ field_size packed 5
  pub seventh : length (instrument_bytes packed 6) ≡ field_size packed 6
  pub eighth : length (instrument_bytes packed 7) ≡ field_size packed 7
  pub ninth : length (instrument_bytes packed 8) ≡ field_size packed 8
  pub timer : length (one_timer_bytes packed) ≡ one_timer_size packed
  pub wave : length (one_wave_bytes packed) ≡ one_wave_size packed
  pub gates : length (gate_from_bytes packed) ≡ gate_from_size packed
  pub envelopes : one_timer_size packed + one_wave_size packed + gate_from_size packed
      + length (envelope_from_bytes packed) ≡ shared_size packed
  pub order_lows : length (lows start 0 (listed_places dependent packed)) ≡ listed_orders packed
  pub order_highs : length (highs start 0 (listed_places dependent packed)) ≡ listed_orders packed
  pub pattern_lows : length (lows start 1 (pattern_places dependent packed)) ≡ length packed.patterns
  pub pattern_highs : length (highs start 1 (pattern_places dependent packed)) ≡ length packed.patterns

-- a list that may be kept has a byte for row 0, and one for each row
kept_length : (dependent : Bool) (packed : PackedSong) (side : List ℕ) → length side ≡ length packed.speed →
    length (kept_list dependent side) ≡ kept_rows dependent packed
kept_length true packed side e = omega (arith, e)
kept_length false packed side e = refl

-- the list of a field has a byte of each instrument, if it is read
pub field_count : (packed : PackedSong) (field : ℕ) → length (instrument_bytes packed field) ≡ field_size packed field
field_count packed field = by_test (is_read packed field)
  where
    by_test : (z : Bool) → length (if z then field_bytes packed field else [])
        ≡ if z then length packed.instruments else 0
    by_test true = length-map packed.instruments (λ i. instrument_byte field (unpacked_instrument i))
    by_test false = refl

-- and there is a byte for all instruments where no two differ in it
timer_count : (packed : PackedSong) → length (one_timer_bytes packed) ≡ one_timer_size packed
timer_count packed = by_test packed.facts.own_timer
  where
    by_test : (z : Bool) →
        length (if z then [] else timer_of (instrument_at (unpacked_song packed) 1) ∷ []) ≡ if z then 0 else 1
    by_test true = refl
    by_test false = refl

wave_count : (packed : PackedSong) → length (one_wave_bytes packed) ≡ one_wave_size packed
wave_count packed = by_test packed.facts.own_wave
  where
    by_test : (z : Bool) →
        length (if z then [] else (instrument_at (unpacked_song packed) 1).first_wave ∷ []) ≡ if z then 0 else 1
    by_test true = refl
    by_test false = refl

-- and one where a number tells from which on they hold so much
number_count : (z : Bool) (packed : PackedSong) (hold : Hold) →
    length (if z then first_holder packed hold ∷ [] else []) ≡ if z then 1 else 0
number_count true packed hold = refl
number_count false packed hold = refl

pub order_places_count : (dependent : Bool) (packed : PackedSong) →
    length (order_places dependent packed) ≡ 3 * length packed.subtunes
order_places_count dependent packed =
    places_count (orders_place dependent packed) (all_orders packed) ∙ orders_count packed.subtunes

-- none of them where there is one subtune alone
listed_count : (dependent : Bool) (packed : PackedSong) →
    length (listed_places dependent packed) ≡ listed_orders packed
listed_count dependent packed = by_test packed.facts.subtunes
  where
    by_test : (z : Bool) →
        length (if z then order_places dependent packed else []) ≡ if z then 3 * length packed.subtunes else 0
    by_test true = order_places_count dependent packed
    by_test false = refl

-- with those that aren't listed there are as many bytes as those of three addresses of each subtune
listed_or_not : (packed : PackedSong) → 2 * listed_orders packed + unlisted_size packed ≡ 6 * length packed.subtunes
listed_or_not packed = by_test packed.facts.subtunes
  where
    by_test : (z : Bool) →
        2 * (if z then 3 * length packed.subtunes else 0) + (if z then 0 else 6 * length packed.subtunes)
        ≡ 6 * length packed.subtunes
    by_test true = omega arith
    by_test false = omega arith

pub lengths : (dependent : Bool) (packed : PackedSong) (start : ℕ) → Lengths dependent packed start
lengths dependent packed start = record {
  speed_rights = length-map packed.speed (λ row. row.right);
  speed_lefts = length-map packed.speed (λ row. row.left);
  slides_low = kept_length dependent packed (rights packed.speed) (length-map packed.speed (λ row. row.right));
  slides_high = kept_length dependent packed (lefts packed.speed) (length-map packed.speed (λ row. row.left));
  periods = kept_length dependent packed (periods packed.speed) (length-map packed.speed (λ row. row.left % 128));
  wave_lefts = length-map (stored_rows packed.wave) (λ row. row.left) ∙ length-map packed.wave stored;
  wave_rights = length-map (stored_rows packed.wave) (λ row. row.right) ∙ length-map packed.wave stored;
  pulse_lefts = length-map packed.pulse (λ row. row.left);
  pulse_rights = length-map packed.pulse (λ row. row.right);
  filter_lefts = length-map packed.filter (λ row. row.left);
  filter_rights = length-map packed.filter (λ row. row.right);
  first = field_count packed 0;
  second = field_count packed 1;
  third = field_count packed 2;
  fourth = field_count packed 3;
  fifth = field_count packed 4;
  sixth = field_count packed 5;
  seventh = field_count packed 6;
  eighth = field_count packed 7;
  ninth = field_count packed 8;
  timer = timer_count packed;
  wave = wave_count packed;
  gates = number_count (has_gate_from packed) packed Gate;
  envelopes = ap (λ (n : ℕ). one_timer_size packed + one_wave_size packed + gate_from_size packed + n)
      (number_count (has_envelope_from packed) packed Envelope);
  order_lows = length-map (listed_places dependent packed) (λ place. (start + place - 0) % 256)
      ∙ listed_count dependent packed;
  order_highs = length-map (listed_places dependent packed) (λ place. (start + place - 0) / 256)
      ∙ listed_count dependent packed;
  pattern_lows = length-map (pattern_places dependent packed) (λ place. (start + place - 1) % 256)
      ∙ places_count (patterns_place dependent packed) packed.patterns;
  pattern_highs = length-map (pattern_places dependent packed) (λ place. (start + place - 1) / 256)
      ∙ places_count (patterns_place dependent packed) packed.patterns;
}

-- so many bytes of fields stand before each of them, and with those that aren't read they are nine of each instrument
pub record FieldSums (packed : PackedSong) : Type 0 where
  pub none : fields_before packed 0 ≡ 0
  pub one : fields_before packed 1 ≡ field_size packed 0
  pub two : fields_before packed 2 ≡ fields_before packed 1 + field_size packed 1
  pub three : fields_before packed 3 ≡ fields_before packed 2 + field_size packed 2
  pub four : fields_before packed 4 ≡ fields_before packed 3 + field_size packed 3
  pub five : fields_before packed 5 ≡ fields_before packed 4 + field_size packed 4
  pub six : fields_before packed 6 ≡ fields_before packed 5 + field_size packed 5
  pub seven : fields_before packed 7 ≡ fields_before packed 6 + field_size packed 6
  pub eight : fields_before packed 8 ≡ fields_before packed 7 + field_size packed 7
  pub nine : fields_before packed 9 ≡ fields_before packed 8 + field_size packed 8
  pub all : fields_before packed 9 + unread_size packed ≡ 9 * length packed.instruments

-- one field more
pub field_more : (packed : PackedSong) (field : ℕ) →
    fields_before packed (field + 1) ≡ fields_before packed field + field_size packed field
unfolding fields_before
field_more packed field =
    let sizes = λ (fields : List ℕ). sum_by (field_size packed) fields in
    ap sizes (sym (map-id (range_with_len 0 (field + 1))))
    ∙ sum_by-map-range_with_len_more (field_size packed) (λ (n : ℕ). n) 0 field field (omega arith)
    ∙ ap (λ (fields : List ℕ). sizes fields + field_size packed field) (map-id (range_with_len 0 field))

field_or_not : (packed : PackedSong) (field : ℕ) →
    field_size packed field + unread packed field ≡ length packed.instruments
field_or_not packed field = by_test (is_read packed field)
  where
    by_test : (z : Bool) → (if z then length packed.instruments else 0) + (if z then 0 else length packed.instruments)
        ≡ length packed.instruments
    by_test true = omega arith
    by_test false = omega arith

fields_add_up : (packed : PackedSong) → fields_before packed 9 + unread_size packed ≡ 9 * length packed.instruments
unfolding fields_before
fields_add_up packed =
    let each = field_or_not packed in
    omega (arith, each 0, each 1, each 2, each 3, each 4, each 5, each 6, each 7, each 8)

none_before : (packed : PackedSong) → fields_before packed 0 ≡ 0
unfolding fields_before
none_before packed = refl

pub field_sums : (packed : PackedSong) → FieldSums packed
field_sums packed = record {
  none = none_before packed;
  one = omega (arith, field_more packed 0, none_before packed);
  two = field_more packed 1;
  three = field_more packed 2;
  four = field_more packed 3;
  five = field_more packed 4;
  six = field_more packed 5;
  seven = field_more packed 6;
  eight = field_more packed 7;
  nine = field_more packed 8;
  all = fields_add_up packed;
}

pub fixed_size : (dependent : Bool) (packed : PackedSong) (start : ℕ) →
    length (concat (fixed_lists dependent packed start)) ≡ orders_place dependent packed
fixed_size dependent packed start =
    let each = lengths dependent packed start in
    let sums = field_sums packed in
    sym (size_all (fixed_lists dependent packed start)) ∙ (omega arith)

-- the frequencies stand behind what is read of the packed song
pub frequencies_begin : (dependent : Bool) (packed : PackedSong) →
    frequencies_place dependent packed ≡ bytes_in_front packed + 3 * kept_rows dependent packed + gap_size packed
frequencies_begin dependent packed =
    ap (λ (n : ℕ). n + gap_size packed)
    (sizes_sum (length (concat (all_orders packed))) (length (concat packed.patterns))
    (length packed.subtunes) (length packed.patterns) (length packed.instruments) (fields_before packed 9)
    (unread_size packed) (listed_orders packed) (unlisted_size packed) (shared_size packed) (length packed.wave)
    (length packed.pulse) (length packed.filter) (length packed.speed) (kept_rows dependent packed)
    (sum_by subtune_size packed.subtunes)
    (sum_by list_size packed.patterns) (orders_size packed.subtunes) (texts_size packed.patterns)
    (field_sums packed).all (listed_or_not packed))
  where
    sizes_sum : (orders patterns subtunes texts instruments fields unread listed unlisted shared wave pulse filter speed
        kept order_sum text_sum : ℕ) → orders + 6 * subtunes ≡ order_sum → patterns + 2 * texts ≡ text_sum →
        fields + unread ≡ 9 * instruments → 2 * listed + unlisted ≡ 6 * subtunes →
        1 + 2 * speed + 3 * kept + 2 * wave + 2 * pulse + 2 * filter + fields + 1 + shared + 2 * listed + 2 * texts
        + orders + patterns
        ≡ 2 + (order_sum + text_sum + 9 * instruments + 2 * wave + 2 * pulse + 2 * filter + 2 * speed + shared
        - (unread + unlisted))
        + 3 * kept
    sizes_sum _ _ _ _ _ _ _ _ _ _ _ _ _ _ _ _ _ d e f g = omega arith

pub gap_count : (packed : PackedSong) → length (gap_bytes packed) ≡ gap_size packed
gap_count packed = length-replicate {A = ℕ} (gap_size packed) 0

frequencies_size : (packed : PackedSong) →
    length (concat (frequency_lists packed)) ≡ gap_size packed + 2 * packed.numbers.count
frequencies_size packed =
    sym (size_all (frequency_lists packed))
    ∙ twice (length (gap_bytes packed)) (length (frequency_lows packed)) (length (frequency_highs packed))
    (gap_size packed) packed.numbers.count (gap_count packed) (lows_count packed) (highs_count packed)
  where
    twice : (g a b gap n : ℕ) → g ≡ gap → a ≡ n → b ≡ n → g + (a + (b + 0)) ≡ gap + 2 * n
    twice g a b gap n d e f = omega (arith, d, e, f)

-- and are the last ones
pub whole_length : (dependent : Bool) (packed : PackedSong) (start : ℕ) →
    length (data_bytes dependent packed start) ≡ frequencies_place dependent packed + 2 * packed.numbers.count
whole_length dependent packed start =
    ap length (concat-append (fixed_lists dependent packed start) (own_lists packed))
    ∙ length-append (concat (fixed_lists dependent packed start)) (concat (own_lists packed))
    ∙ adds (length (concat (fixed_lists dependent packed start))) (orders_place dependent packed)
    (length (concat (own_lists packed))) (length (concat (all_orders packed)))
    (length (concat (packed.patterns ++ frequency_lists packed))) (length (concat packed.patterns))
    (length (concat (frequency_lists packed))) (gap_size packed) packed.numbers.count
    (fixed_size dependent packed start)
    (both (all_orders packed) (packed.patterns ++ frequency_lists packed))
    (both packed.patterns (frequency_lists packed)) (frequencies_size packed)
  where
    both : (front back : List (List ℕ)) →
        length (concat (front ++ back)) ≡ length (concat front) + length (concat back)
    both front back = ap length (concat-append front back) ∙ length-append (concat front) (concat back)

    adds : (fixed place own orders rest patterns frequencies gap listed : ℕ) → fixed ≡ place → own ≡ orders + rest →
        rest ≡ patterns + frequencies → frequencies ≡ gap + 2 * listed →
        fixed + own ≡ place + orders + patterns + gap + 2 * listed
    adds fixed place own orders rest patterns frequencies gap listed a b c d = omega (arith, a, b, c, d)

pub frequencies_end : (dependent : Bool) (packed : PackedSong) →
    frequencies_place dependent packed + 2 * packed.numbers.count ≡ lists_size dependent packed
frequencies_end dependent packed = ap (λ (n : ℕ). n + 2 * packed.numbers.count) (frequencies_begin dependent packed)

pub data_takes_size : (dependent : Bool) (packed : PackedSong) (start : ℕ) →
    length (data_bytes dependent packed start) ≡ lists_size dependent packed
data_takes_size dependent packed start =
    whole_length dependent packed start ∙ frequencies_end dependent packed

-- behind the last byte of the patterns
pub texts_end : (dependent : Bool) (packed : PackedSong) →
    orders_place dependent packed + (length (concat (all_orders packed)) + length (concat packed.patterns))
    + gap_size packed + 2 * packed.numbers.count
    ≡ lists_size dependent packed
texts_end dependent packed =
    sum (orders_place dependent packed) (length (concat (all_orders packed))) (length (concat packed.patterns))
    (gap_size packed) packed.numbers.count ∙ frequencies_end dependent packed
  where
    sum : (place orders patterns gap listed : ℕ) →
        place + (orders + patterns) + gap + 2 * listed ≡ place + orders + patterns + gap + 2 * listed
    sum place orders patterns gap listed = omega arith

-- ---- the labels of the frequencies

-- each is as far in front of its list as its first number says, or of nothing a byte; so a byte of all lists is there
pub record FrequencyLabels (dependent : Bool) (packed : PackedSong) : Type 0 where
  pub back : bytes_back packed ≤ frequencies_place dependent packed
  pub least : packed.numbers.first ≤ bytes_back packed
  pub some : 1 ≤ bytes_back packed + packed.numbers.count
  pub first : 1 ≤ packed.numbers.count → bytes_back packed ≡ packed.numbers.first

-- the two zeros are always in front
some_in_front : (packed : PackedSong) → 1 ≤ bytes_in_front packed
some_in_front packed = omega arith

pub frequency_labels : (dependent : Bool) (packed : PackedSong) → FrequencyLabels dependent packed
frequency_labels dependent packed =
    let begin = frequencies_begin dependent packed in record {
      back = in_front packed.numbers.first (bytes_in_front packed) (kept_rows dependent packed)
          packed.numbers.count (frequencies_place dependent packed) (some_in_front packed) begin;
      least = at_least packed.numbers.first packed.numbers.count;
      some = or_some packed.numbers.first packed.numbers.count;
      first = as_first packed.numbers.first packed.numbers.count;
    }
  where
    in_front : (first front kept listed place : ℕ) → 1 ≤ front → place ≡ front + 3 * kept + (first - front) →
        max first (1 - listed) ≤ place
    in_front first front kept listed place some e = omega (arith, some, e)

    at_least : (first listed : ℕ) → first ≤ max first (1 - listed)
    at_least first listed = omega arith

    or_some : (first listed : ℕ) → 1 ≤ max first (1 - listed) + listed
    or_some first listed = omega arith

    as_first : (first listed : ℕ) → 1 ≤ listed → max first (1 - listed) ≡ first
    as_first first listed some = omega (arith, some)
