-- The places of a packed song's lists: none behind the last byte.
use Rattle.std.proofs.Common.{◌≡◌, ℕ, ◌+◌, ◌-◌, ◌*◌, ◌<◌, ◌≤◌, Bool, true, false, List, ◌++◌, length, get_or, map}
use Rattle.std.proofs.Common.{All, arith}
use Rattle.std.specs.List.{AllByRecursion, concat, range_with_len}
use Rattle.std.proofs.lemmas.List.{get_or_default}
use Rattle.std.proofs.lemmas.List.Elements.{All-weaker, All-append, All-from_recursion}
use Rattle.packed_form.specs.declared.packed_songs.PackedSong.{PackedSong}
use Rattle.player_memory.specs.declared.labels.TheConstants.{ORDERS, PATTERNS}
use Rattle.player_memory.specs.SongLists.{Instruments, gap_size}
use Rattle.song_lists.specs.declared.marks.Mark.{Mark}
use Rattle.song_lists.specs.DataLists.{all_orders, slides_low_place, slides_high_place, periods_place, orders_place}
use Rattle.song_lists.specs.DataLists.{patterns_place, places_from, order_places, pattern_places, data_bytes, own_mark}
use Rattle.song_lists.specs.DataLists.{one_wave_place, gate_from_place, envelope_from_place, frequencies_place}
use Rattle.song_lists.specs.DataLists.{bytes_back, frequency_marks, speed_marks}
use Rattle.song_lists.specs.DataLists.{wave_marks, pulse_marks, filter_marks, instrument_marks}
use Rattle.song_lists.specs.DataLists.{address_marks, shared_marks, slide_marks, holder_marks, list_marks, data_marks}
use Rattle.song_lists.specs.ListLaws.{lists_size}
use Rattle.song_lists.proofs.Pieces.{places_count, size_within, place_at}
use Rattle.song_lists.proofs.Lists.{lengths, field_sums, whole_length, texts_end, frequency_labels}
use Rattle.song_lists.proofs.DataMarks.{marks_between, all_of_three}

abbrev IsUpTo : ℕ → Mark → Type 0
IsUpTo end mark = mark.place ≤ end

abbrev Each : Bool → PackedSong → List Mark → Type 0
Each dependent packed marks = AllByRecursion (IsUpTo (orders_place dependent packed)) marks

abbrev field_mark : Bool → PackedSong → ℕ → Mark
field_mark dependent packed field = own_mark dependent packed (Instruments field)

-- those that depend on what is kept
low_within : (dependent : Bool) (packed : PackedSong) →
    slides_low_place dependent packed ≤ orders_place dependent packed
low_within true packed = omega arith
low_within false packed = omega arith

high_within : (dependent : Bool) (packed : PackedSong) →
    slides_high_place dependent packed ≤ orders_place dependent packed
high_within true packed = omega arith
high_within false packed = omega arith

periods_within : (dependent : Bool) (packed : PackedSong) →
    periods_place dependent packed ≤ orders_place dependent packed
periods_within true packed = omega arith
periods_within false packed = omega arith

-- the bytes behind the first one for all instruments are among as many as there are
wave_within : (dependent : Bool) (packed : PackedSong) →
    one_wave_place dependent packed ≤ orders_place dependent packed
wave_within dependent packed = (let all = (lengths dependent packed 0).envelopes in omega arith)

gate_within : (dependent : Bool) (packed : PackedSong) →
    gate_from_place dependent packed ≤ orders_place dependent packed
gate_within dependent packed = (let all = (lengths dependent packed 0).envelopes in omega arith)

envelope_within : (dependent : Bool) (packed : PackedSong) →
    envelope_from_place dependent packed ≤ orders_place dependent packed
envelope_within dependent packed = (let all = (lengths dependent packed 0).envelopes in omega arith)

-- the last ones, from the addresses and from the instruments on
abbrev behind_instruments : Bool → PackedSong → List Mark
behind_instruments dependent packed =
    address_marks dependent packed ++ (shared_marks dependent packed ++ (slide_marks dependent packed
    ++ holder_marks dependent packed))

abbrev behind_tables : Bool → PackedSong → List Mark
behind_tables dependent packed = instrument_marks dependent packed ++ behind_instruments dependent packed

-- all but those of the frequencies
abbrev behind_frequencies : Bool → PackedSong → List Mark
behind_frequencies dependent packed =
    speed_marks dependent packed ++ (wave_marks dependent packed ++ (pulse_marks dependent packed
    ++ (filter_marks dependent packed ++ behind_tables dependent packed)))

others_within : (dependent : Bool) (packed : PackedSong) →
    All (IsUpTo (orders_place dependent packed)) (behind_frequencies dependent packed)
others_within dependent packed =
    let sums = field_sums packed in
    let addresses : Each dependent packed (behind_instruments dependent packed) = (
      omega arith,
      (
        omega arith,
        (
          omega arith,
          (
            omega arith,
            (
              omega arith,
              (
                wave_within dependent packed,
                (
                  low_within dependent packed,
                  (
                    high_within dependent packed,
                    (gate_within dependent packed, (envelope_within dependent packed, tt)),
                  ),
                ),
              ),
            ),
          ),
        ),
      ),
    ) in
    let fields : Each dependent packed (map (field_mark dependent packed) (range_with_len 4 5)
    ++ behind_instruments dependent packed) =
    (omega arith, (omega arith, (omega arith, (omega arith, (omega arith, addresses))))) in
    let instruments : Each dependent packed (behind_tables dependent packed) =
    (omega arith, (omega arith, (omega arith, (omega arith, fields)))) in
    let filter : Each dependent packed (filter_marks dependent packed ++ behind_tables dependent packed) =
    (omega arith, (omega arith, (omega arith, instruments))) in
    let pulse : Each dependent packed (pulse_marks dependent packed ++ (filter_marks dependent packed
    ++ behind_tables dependent packed)) = (omega arith, (omega arith, (omega arith, filter))) in
    let wave : Each dependent packed (wave_marks dependent packed ++ (pulse_marks dependent packed
    ++ (filter_marks dependent packed ++ behind_tables dependent packed))) =
    (omega arith, (omega arith, (omega arith, (omega arith, pulse)))) in
    All-from_recursion (IsUpTo (orders_place dependent packed)) (behind_frequencies dependent packed)
    (omega arith, (omega arith, (periods_within dependent packed, wave)))

-- the bytes of frequencies reach behind each of their labels
one_before : (place back listed before whole : ℕ) → back ≤ place → 1 ≤ back + listed → before ≤ listed →
    whole ≡ place + 2 * listed → place + before - back + 1 ≤ whole
one_before place back listed before whole within some few e = omega (arith, within, some, few, e)

frequencies_within : (dependent : Bool) (packed : PackedSong) (start : ℕ) →
    All (IsUpTo (length (data_bytes dependent packed start))) (frequency_marks dependent packed)
frequencies_within dependent packed start =
    let labels = frequency_labels dependent packed in
    let whole = whole_length dependent packed start in
    let low = one_before (frequencies_place dependent packed) (bytes_back packed) packed.numbers.count 0
    (length (data_bytes dependent packed start)) labels.back labels.some (omega arith) whole in
    let high = one_before (frequencies_place dependent packed) (bytes_back packed) packed.numbers.count
    packed.numbers.count (length (data_bytes dependent packed start)) labels.back labels.some (omega arith)
    whole in
    let next_low = without _ _ _ low in
    All-from_recursion (IsUpTo (length (data_bytes dependent packed start))) (frequency_marks dependent packed)
    (a_byte_less _ _ next_low, (next_low, (a_byte_less _ _ high, (high, tt))))
  where
    without : (place back whole : ℕ) → place + 0 - back + 1 ≤ whole → place - back + 1 ≤ whole
    without place back whole le = omega (arith, le)

    a_byte_less : (place whole : ℕ) → place + 1 ≤ whole → place ≤ whole
    a_byte_less place whole le = omega (arith, le)

lists_within : (dependent : Bool) (packed : PackedSong) (start : ℕ) →
    All (IsUpTo (length (data_bytes dependent packed start))) (list_marks dependent packed)
lists_within dependent packed start =
    All-append (IsUpTo (length (data_bytes dependent packed start))) (frequency_marks dependent packed)
    (behind_frequencies dependent packed) (frequencies_within dependent packed start)
    (All-weaker (IsUpTo (orders_place dependent packed)) (IsUpTo (length (data_bytes dependent packed start)))
    (λ mark up_to. reaches mark.place (orders_place dependent packed) (length (concat (all_orders packed)))
    (length (concat packed.patterns)) (gap_size packed) packed.numbers.count
    (length (data_bytes dependent packed start))
    (whole_length dependent packed start) up_to)
    (behind_frequencies dependent packed) (others_within dependent packed))
  where
    reaches : (place from orders patterns gap listed whole : ℕ) →
        whole ≡ from + orders + patterns + gap + 2 * listed → place ≤ from → place ≤ whole
    reaches place from orders patterns gap listed whole e le = omega (arith, e, le)

-- lists one behind the other stand up to the last one's end
places_up_to : (from : ℕ) (lists : List (List ℕ)) (k : ℕ) → k < length (places_from from lists) →
    get_or (places_from from lists) k 0 ≤ from + length (concat lists)
places_up_to from lists k inside =
    let there : k < length lists = omega (arith, places_count from lists) in
    omega (arith, place_at from lists k there, size_within lists k)

pub places_within : (dependent : Bool) (packed : PackedSong) (start : ℕ) →
    All (λ (mark : Mark). mark.place ≤ length (data_bytes dependent packed start)) (data_marks dependent packed)
places_within dependent packed start =
    let whole = whole_length dependent packed start in
    all_of_three (IsUpTo (length (data_bytes dependent packed start))) dependent packed
    (lists_within dependent packed start)
    (marks_between (IsUpTo (length (data_bytes dependent packed start))) ORDERS (order_places dependent packed)
    (λ k inside. omega (arith, places_up_to (orders_place dependent packed) (all_orders packed) k inside)))
    (marks_between (IsUpTo (length (data_bytes dependent packed start))) PATTERNS (pattern_places dependent packed)
    (λ k inside. omega (arith, places_up_to (patterns_place dependent packed) packed.patterns k inside)))

-- so they have addresses of 16 bits
addresses_fit : (start from most : ℕ) (lists : List (List ℕ)) → from + length (concat lists) ≤ most →
    start + most ≤ 65535 → All (λ place. start + place ≤ 65535) (places_from from lists)
addresses_fit start from most lists within fits k d inside =
    let here = places_up_to from lists k inside in
    let same = get_or_default (places_from from lists) k d 0 inside in
    omega arith

pub order_addresses_fit : (dependent : Bool) (packed : PackedSong) (start : ℕ) →
    start + lists_size dependent packed ≤ 0xD000 →
    All (λ place. start + place ≤ 65535) (order_places dependent packed)
order_addresses_fit dependent packed start most =
    let end = texts_end dependent packed in
    addresses_fit start (orders_place dependent packed) (lists_size dependent packed) (all_orders packed) (omega arith)
    (omega arith)

pub pattern_addresses_fit : (dependent : Bool) (packed : PackedSong) (start : ℕ) →
    start + lists_size dependent packed ≤ 0xD000 →
    All (λ place. start + place ≤ 65535) (pattern_places dependent packed)
pattern_addresses_fit dependent packed start most =
    let end = texts_end dependent packed in
    addresses_fit start (patterns_place dependent packed) (lists_size dependent packed) packed.patterns (omega arith)
    (omega arith)

-- and a byte before them
places_behind : (least from : ℕ) (lists : List (List ℕ)) → least ≤ from →
    All (λ place. least ≤ place) (places_from from lists)
places_behind least from lists behind k d inside =
    let there : k < length lists = omega (arith, places_count from lists) in
    let place = place_at from lists k there in
    let same = get_or_default (places_from from lists) k d 0 inside in
    omega arith

pub order_places_begin : (dependent : Bool) (packed : PackedSong) →
    All (λ place. 0 ≤ place) (order_places dependent packed)
order_places_begin dependent packed =
    places_behind 0 (orders_place dependent packed) (all_orders packed) (omega arith)

pub pattern_places_begin : (dependent : Bool) (packed : PackedSong) →
    All (λ place. 1 ≤ place) (pattern_places dependent packed)
pattern_places_begin dependent packed =
    places_behind 1 (patterns_place dependent packed) packed.patterns (omega arith)
