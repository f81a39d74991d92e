-- The lists of a packed song in memory: each place among the bytes, beside the slides.
use Rattle.std.proofs.Common.{◌≡◌, ℕ, ◌+◌, ◌-◌, ◌*◌, ◌%◌, ◌<◌, ◌≤◌, ◌⊎◌, inl, inr, Bool}
use Rattle.std.proofs.Common.{true, false}
use Rattle.std.proofs.Common.{List, ◌∷◌, length, get_or, map, refl, ap, subst, ◌∙◌, arith}
use Rattle.std.proofs.lemmas.List.{length-map}
use Rattle.cpu6502.specs.declared.memory.TheConstants.{MEMORY_SIZE}
use Rattle.song_model.specs.declared.tables.TableRow.{TableRow}
use Rattle.song_model.specs.declared.tables.TableName.TheVariants.{Wave, Pulse, Filter, Speed}
use Rattle.song_model.specs.LookUp.{table_row, zero_table_row}
use Rattle.packed_form.specs.declared.packed_songs.PackedSong.{PackedSong}
use Rattle.packed_form.specs.Unpacked.{unpacked_song}
use Rattle.asm6502.specs.Standing.{BytesStand}
use Rattle.scopes.specs.Desk.{Layout}
use Rattle.player_memory.specs.declared.conditions.TheConstants.{NOTE_DEPENDENT}
use Rattle.player_memory.specs.declared.labels.TheConstants.{ORDERS, SLIDES_LOW, SLIDES_HIGH, ONE_TIMER, ONE_WAVE}
use Rattle.player_memory.specs.declared.labels.TheConstants.{GATE_FROM, ENVELOPE_FROM}
use Rattle.player_memory.specs.Playing.{place_in}
use Rattle.player_memory.specs.Fetching.{place_before}
use Rattle.player_memory.specs.SongLists.{SongList, FrequencyLows, FrequencyHighs, Lefts, Rights, Periods, Instruments}
use Rattle.player_memory.specs.SongLists.{OneTimer, OneWave, GateFrom, EnvelopeFrom, OrderLows, OrderHighs}
use Rattle.player_memory.specs.SongLists.{PatternLows, PatternHighs, OrderBytes, PatternBytes}
use Rattle.player_memory.specs.SongLists.{IsSongList, HasNumber, SlidesStand, list_label, list_length, first_number}
use Rattle.player_memory.specs.SongLists.{slide_rows}
use Rattle.player_memory.specs.Holds.{AreNext}
use Rattle.song_lists.specs.DataLists.{speed_rights_place, speed_lefts_place, slides_low_place, slides_high_place}
use Rattle.song_lists.specs.DataLists.{periods_place, orders_place, patterns_place, all_orders, order_places}
use Rattle.song_lists.specs.DataLists.{frequencies_place, bytes_back, pattern_places, data_bytes, label_place}
use Rattle.song_lists.specs.DataLists.{list_marks}
use Rattle.song_lists.specs.ListLaws.{lists_size, IsListLayout, IsInside, IsBesideSlides, DataStandsIn}
use Rattle.song_lists.specs.ListLaws.{PatternStandsInside, SlidesStandInside}
use Rattle.song_lists.proofs.Pieces.{StandsIn, size_within, place_at, orders_count}
use Rattle.song_lists.proofs.Lists.{lengths, data_takes_size, texts_end, frequency_labels}
use Rattle.song_lists.proofs.Stretches.{IsWritten, KeptStand, slides_stand, list_stands}
use Rattle.song_lists.proofs.Standing.{no_mark, fixed_at, order_at_label, pattern_at_label, begins_at, has_length}
use Rattle.song_lists.proofs.Standing.{has_bytes, speed_side_at}

-- ---- the list that a number is of

is_written : (layout : Layout) (packed : PackedSong) (list : SongList) → IsSongList layout packed list →
    IsWritten (layout.holds NOTE_DEPENDENT) packed list
is_written layout packed FrequencyLows is = is
is_written layout packed FrequencyHighs is = is
is_written layout packed (Lefts name) is = is
is_written layout packed (Rights name) is = is
is_written layout packed Periods is = is
is_written layout packed (Instruments field) is = is
is_written layout packed OneTimer is = is
is_written layout packed OneWave is = is
is_written layout packed GateFrom is = is
is_written layout packed EnvelopeFrom is = is
is_written layout packed OrderLows is = is
is_written layout packed OrderHighs is = is
is_written layout packed PatternLows is = is
is_written layout packed PatternHighs is = is
is_written layout packed (OrderBytes subtune channel) is = is
is_written layout packed (PatternBytes pattern) is = is

-- where a number of a list stands: so many bytes from the first one on
record StandsAt (layout : Layout) (packed : PackedSong) (start : ℕ) (list : SongList) (number i : ℕ) : Type 0 where
  pub below : i < list_length packed list
  pub number_is : number ≡ first_number packed list + i
  pub within : label_place (layout.holds NOTE_DEPENDENT) packed list + first_number packed list + i
      < lists_size (layout.holds NOTE_DEPENDENT) packed
  pub place : place_in layout (list_label list) number
      ≡ start + (label_place (layout.holds NOTE_DEPENDENT) packed list + first_number packed list + i)

in_memory : (place : ℕ) → place < MEMORY_SIZE → place % MEMORY_SIZE ≡ place
in_memory place below = omega arith

stands_at : (layout : Layout) (packed : PackedSong) (start : ℕ) (list : SongList) (number : ℕ) →
    IsListLayout layout packed start → IsSongList layout packed list → HasNumber packed list number →
    StandsAt layout packed start list number (number - first_number packed list)
stands_at layout packed start list number laid is has =
    let dependent = layout.holds NOTE_DEPENDENT in
    let there = list_stands dependent packed start list (is_written layout packed list is) in
    let count = has_length dependent packed start list (is_written layout packed list is) in
    let whole = data_takes_size dependent packed start in
    let within = there.inside in
    let ends = laid.ends in
    let from = has.from in
    let to = has.to in
    let begins = begins_at layout dependent packed start list laid.laid (is_written layout packed list is) in record {
      below = omega arith;
      number_is = omega arith;
      within = omega arith;
      place = in_memory (layout.address (list_label list) + number) (omega arith) ∙ (omega arith);
    }

-- ---- beside the slides

-- a place in front of them, or behind them
abbrev IsBeside : PackedSong → ℕ → Type 0
IsBeside packed place =
    (place < 2 + 2 * length packed.speed) ⊎ (2 + 2 * length packed.speed + 2 * slide_rows packed ≤ place)

order_behind : (packed : PackedSong) (subtune channel : ℕ) → subtune < length packed.subtunes → channel < 3 →
    orders_place true packed ≤ get_or (order_places true packed) (3 * subtune + channel) 0
order_behind packed subtune channel inside below =
    let count = orders_count packed.subtunes in
    omega (arith, place_at (orders_place true packed) (all_orders packed) (3 * subtune + channel) (omega arith))

pattern_behind : (dependent : Bool) (packed : PackedSong) (pattern : ℕ) → pattern < length packed.patterns →
    patterns_place dependent packed ≤ get_or (pattern_places dependent packed) pattern 0
pattern_behind dependent packed pattern inside =
    omega (arith, place_at (patterns_place dependent packed) packed.patterns pattern inside)

-- the frequencies, where there are some, stand behind the patterns
frequency_beside : (packed : PackedSong) (before i : ℕ) → i < packed.numbers.count →
    2 + 2 * length packed.speed + 2 * slide_rows packed
    ≤ frequencies_place true packed + before - bytes_back packed + packed.numbers.first + i
frequency_beside packed before i below =
    let labels = frequency_labels true packed in
    behind (frequencies_place true packed) (bytes_back packed) packed.numbers.first packed.numbers.count before i
    (2 + 2 * length packed.speed + 2 * slide_rows packed) labels.back labels.first below (omega arith)
  where
    behind : (place back first listed before i from : ℕ) → back ≤ place → (1 ≤ listed → back ≡ first) → i < listed →
        from ≤ place → from ≤ place + before - back + first + i
    behind place back first listed before i from within same some le =
        let is = same (omega (arith, some)) in
        omega (arith, within, is, le)

list_beside : (packed : PackedSong) (list : SongList) (i : ℕ) → IsWritten true packed list →
    i < list_length packed list → IsBeside packed (label_place true packed list + first_number packed list + i)
list_beside packed FrequencyLows i is below =
    inr (subst (λ (p : ℕ). 2 + 2 * length packed.speed + 2 * slide_rows packed
    ≤ p - bytes_back packed + packed.numbers.first + i)
    (no_more (frequencies_place true packed)) (frequency_beside packed 0 i below))
  where
    no_more : (place : ℕ) → place + 0 ≡ place
    no_more place = omega arith
list_beside packed FrequencyHighs i is below = inr (frequency_beside packed packed.numbers.count i below)
list_beside packed (Lefts Speed) i is below = inl (omega arith)
list_beside packed (Rights Speed) i is below = inl (omega arith)
list_beside packed (Lefts Wave) i is below = inr (omega arith)
list_beside packed (Rights Wave) i is below = inr (omega arith)
list_beside packed (Lefts Pulse) i is below = inr (omega arith)
list_beside packed (Rights Pulse) i is below = inr (omega arith)
list_beside packed (Lefts Filter) i is below = inr (omega arith)
list_beside packed (Rights Filter) i is below = inr (omega arith)
list_beside packed Periods i is below = inr (omega arith)
list_beside packed (Instruments field) i is below = inr (omega arith)
list_beside packed OneTimer i is below = inr (omega arith)
list_beside packed OneWave i is below = inr (omega arith)
list_beside packed GateFrom i is below = inr (omega arith)
list_beside packed EnvelopeFrom i is below = inr (omega arith)
list_beside packed OrderLows i is below = inr (omega arith)
list_beside packed OrderHighs i is below = inr (omega arith)
list_beside packed PatternLows i is below = inr (omega arith)
list_beside packed PatternHighs i is below = inr (omega arith)
list_beside packed (OrderBytes subtune channel) i is below =
    inr (omega (arith, order_behind packed subtune channel is.0 is.1))
list_beside packed (PatternBytes pattern) i is below = inr (omega (arith, pattern_behind true packed pattern is))

kept_beside : (dependent : Bool) (packed : PackedSong) (list : SongList) (i : ℕ) → dependent ≡ true →
    IsWritten dependent packed list → i < list_length packed list →
    IsBeside packed (label_place dependent packed list + first_number packed list + i)
kept_beside true packed list i e is below = list_beside packed list i is below
kept_beside false packed list i e is below = absurd (cc)

low_place_is : (dependent : Bool) (packed : PackedSong) → dependent ≡ true →
    slides_low_place dependent packed ≡ 2 + 2 * length packed.speed
low_place_is true packed e = refl
low_place_is false packed e = absurd (cc)

high_place_is : (dependent : Bool) (packed : PackedSong) → dependent ≡ true →
    slides_high_place dependent packed ≡ 2 + 2 * length packed.speed + slide_rows packed
high_place_is true packed e = refl
high_place_is false packed e = absurd (cc)

-- the slides' addresses, where they are kept
low_address_is : (layout : Layout) (packed : PackedSong) (start : ℕ) → IsListLayout layout packed start →
    layout.holds NOTE_DEPENDENT ≡ true → layout.address SLIDES_LOW ≡ start + (2 + 2 * length packed.speed)
low_address_is layout packed start laid e =
    fixed_at layout (layout.holds NOTE_DEPENDENT) packed start 32 no_mark laid.laid (omega arith)
    ∙ ap (λ (n : ℕ). start + n) (low_place_is (layout.holds NOTE_DEPENDENT) packed e)

high_address_is : (layout : Layout) (packed : PackedSong) (start : ℕ) → IsListLayout layout packed start →
    layout.holds NOTE_DEPENDENT ≡ true →
    layout.address SLIDES_HIGH ≡ start + (2 + 2 * length packed.speed + slide_rows packed)
high_address_is layout packed start laid e =
    fixed_at layout (layout.holds NOTE_DEPENDENT) packed start 33 no_mark laid.laid (omega arith)
    ∙ ap (λ (n : ℕ). start + n) (high_place_is (layout.holds NOTE_DEPENDENT) packed e)

beside_slides : (layout : Layout) (packed : PackedSong) (start place n : ℕ) → IsListLayout layout packed start →
    place ≡ start + n → (layout.holds NOTE_DEPENDENT ≡ true → IsBeside packed n) → IsBesideSlides layout packed place
beside_slides layout packed start place n laid is beside = record {
  low = λ e.
      let address = low_address_is layout packed start laid e in elim (beside e) [
        | inl front ↦ inl (omega arith)
        | inr behind ↦ inr (omega arith)
      ];
  high = λ e.
      let address = high_address_is layout packed start laid e in elim (beside e) [
        | inl front ↦ inl (omega arith)
        | inr behind ↦ inr (omega arith)
      ];
}

pub lists_stand_inside : (layout : Layout) (packed : PackedSong) (start : ℕ) (list : SongList) (number : ℕ) →
    IsListLayout layout packed start → IsSongList layout packed list → HasNumber packed list number →
    IsInside layout packed start (place_in layout (list_label list) number)
    × IsBesideSlides layout packed (place_in layout (list_label list) number)
lists_stand_inside layout packed start list number laid is has =
    let dependent = layout.holds NOTE_DEPENDENT in
    let i = number - first_number packed list in
    let at = stands_at layout packed start list number laid is has in
    let within = at.within in
    let place = at.place in (
      record { from = omega arith; to = omega arith },
      beside_slides layout packed start (place_in layout (list_label list) number)
          (label_place dependent packed list + first_number packed list + i) laid place
          (λ e. kept_beside dependent packed list i e (is_written layout packed list is) at.below),
    )

-- the slides' bytes, where they are kept
kept_stand : (dependent : Bool) (packed : PackedSong) (start : ℕ) → dependent ≡ true →
    KeptStand packed (data_bytes dependent packed start)
kept_stand true packed start e = slides_stand packed start
kept_stand false packed start e = absurd (cc)

-- ---- what stands alone for all instruments, orderlists, patterns and slides

-- each of their labels names a byte of these, where it has one, and else one of them or their end
pub shared_stand_inside : (layout : Layout) (packed : PackedSong) (start : ℕ) → IsListLayout layout packed start →
    (layout.address ONE_TIMER ≤ start + lists_size (layout.holds NOTE_DEPENDENT) packed)
    × (layout.address ONE_WAVE ≤ start + lists_size (layout.holds NOTE_DEPENDENT) packed)
    × (layout.address GATE_FROM ≤ start + lists_size (layout.holds NOTE_DEPENDENT) packed)
    × (layout.address ENVELOPE_FROM ≤ start + lists_size (layout.holds NOTE_DEPENDENT) packed)
shared_stand_inside layout packed start laid =
    let dependent = layout.holds NOTE_DEPENDENT in
    let timer = fixed_at layout dependent packed start 30 no_mark laid.laid (omega arith) in
    let wave = fixed_at layout dependent packed start 31 no_mark laid.laid (omega arith) in
    let gates = fixed_at layout dependent packed start 34 no_mark laid.laid (omega arith) in
    let envelopes = fixed_at layout dependent packed start 35 no_mark laid.laid (omega arith) in
    let all = (lengths dependent packed start).envelopes in
    let end = texts_end dependent packed in
    (omega arith, omega arith, omega arith, omega arith)

pub orders_stand_inside : (layout : Layout) (packed : PackedSong) (start number : ℕ) →
    IsListLayout layout packed start → number < 3 * length packed.subtunes →
    (start ≤ layout.address (ORDERS + number))
    × (layout.address (ORDERS + number) ≤ start + lists_size (layout.holds NOTE_DEPENDENT) packed)
orders_stand_inside layout packed start number laid inside =
    let dependent = layout.holds NOTE_DEPENDENT in
    let at = order_at_label layout dependent packed start number laid.laid inside in
    let count = orders_count packed.subtunes in
    let there : number < length (all_orders packed) = omega arith in
    let place = place_at (orders_place dependent packed) (all_orders packed) number there in
    let size = size_within (all_orders packed) number in
    let end = texts_end dependent packed in
    (omega arith, omega arith)

pub patterns_stand_inside : (layout : Layout) (packed : PackedSong) (start number : ℕ) →
    IsListLayout layout packed start → number < length packed.patterns →
    PatternStandsInside layout packed start number
patterns_stand_inside layout packed start number laid inside =
    let dependent = layout.holds NOTE_DEPENDENT in
    let at = pattern_at_label layout dependent packed start number laid.laid inside in
    let place = place_at (patterns_place dependent packed) packed.patterns number inside in
    let size = size_within packed.patterns number in
    let end = texts_end dependent packed in record {
      from = omega arith;
      to = omega arith;
      inside = record { from = omega arith; to = omega arith };
      beside = beside_slides layout packed start (place_before layout number)
          (get_or (pattern_places dependent packed) number 0 - 1) laid (omega arith)
          (λ e. pattern_beside dependent packed number e inside);
    }
  where
    pattern_beside : (dependent : Bool) (packed : PackedSong) (number : ℕ) → dependent ≡ true →
        number < length packed.patterns → IsBeside packed (get_or (pattern_places dependent packed) number 0 - 1)
    pattern_beside true packed number e inside = inr (omega (arith, pattern_behind true packed number inside))
    pattern_beside false packed number e inside = absurd (cc)

pub slides_are_inside : (layout : Layout) (packed : PackedSong) (start : ℕ) → IsListLayout layout packed start →
    layout.holds NOTE_DEPENDENT ≡ true → SlidesStandInside layout packed start
slides_are_inside layout packed start laid e =
    let dependent = layout.holds NOTE_DEPENDENT in
    let low = low_address_is layout packed start laid e in
    let high = high_address_is layout packed start laid e in
    let stand = kept_stand dependent packed start e in
    let within = stand.high.inside in
    let whole = data_takes_size dependent packed start in
    let count = length-map packed.speed (λ (row : TableRow). row.left) in record {
      from = omega arith;
      apart = omega arith;
      to = omega arith;
    }

pub next_bytes_are_next : (layout : Layout) (packed : PackedSong) (start : ℕ) → IsListLayout layout packed start →
    AreNext layout
next_bytes_are_next layout packed start laid = record {
  frequency_lows = a_byte_on _ _ _ (at 0 (omega arith)) (at 1 (omega arith));
  frequency_highs = a_byte_on _ _ _ (at 2 (omega arith)) (at 3 (omega arith));
  wave_lefts = a_byte_on _ _ _ (at 7 (omega arith)) (at 8 (omega arith));
  wave_rights = a_byte_on _ _ _ (at 9 (omega arith)) (at 10 (omega arith));
  pulse_lefts = a_byte_on _ _ _ (at 11 (omega arith)) (at 12 (omega arith));
  filter_lefts = a_byte_on _ _ _ (at 14 (omega arith)) (at 15 (omega arith));
}
  where
    at : (k : ℕ) → k < 36 → layout.address (get_or (list_marks (layout.holds NOTE_DEPENDENT) packed) k no_mark).label
        ≡ start + (get_or (list_marks (layout.holds NOTE_DEPENDENT) packed) k no_mark).place
    at k below = fixed_at layout (layout.holds NOTE_DEPENDENT) packed start k no_mark laid.laid below

    a_byte_on : (a b place : ℕ) → a ≡ start + place → b ≡ start + (place + 1) → b ≡ a + 1
    a_byte_on a b place e f = omega arith

-- ---- the lists in memory

-- a byte of the slides
slide_byte : (packed : PackedSong) (start place number : ℕ) (at : ℕ → ℕ) (whole : List ℕ) (side : TableRow → ℕ)
    (address : ℕ) → BytesStand at start whole → StandsIn whole place (0 ∷ map side packed.speed) →
    address ≡ start + place → side zero_table_row ≡ 0 → number < slide_rows packed →
    at (address + number) ≡ side (table_row (unpacked_song packed) Speed number)
slide_byte packed start place number at whole side address bytes there is none inside =
    let count = length-map packed.speed side in
    let within = there.inside in
    let e : address + number ≡ start + (place + number) = omega arith in
    ap at e ∙ bytes.byte (place + number) (omega arith) ∙ there.byte number (omega arith)
    ∙ speed_side_at packed side number none (omega arith)

-- the labels of slides and periods where they aren't kept
low_is_speed : (dependent : Bool) (packed : PackedSong) → dependent ≡ false →
    slides_low_place dependent packed ≡ speed_rights_place packed
low_is_speed true packed e = absurd (cc)
low_is_speed false packed e = refl

high_is_speed : (dependent : Bool) (packed : PackedSong) → dependent ≡ false →
    slides_high_place dependent packed ≡ speed_lefts_place packed
high_is_speed true packed e = absurd (cc)
high_is_speed false packed e = refl

periods_are_speed : (dependent : Bool) (packed : PackedSong) → dependent ≡ false →
    periods_place dependent packed ≡ speed_lefts_place packed
periods_are_speed true packed e = absurd (cc)
periods_are_speed false packed e = refl

slides_stand_in : (layout : Layout) (packed : PackedSong) (start : ℕ) (at : ℕ → ℕ) →
    IsListLayout layout packed start →
    BytesStand at start (data_bytes (layout.holds NOTE_DEPENDENT) packed start) → SlidesStand layout packed at
slides_stand_in layout packed start at laid bytes = record {
  low = λ e number inside small.
      slide_byte packed start (2 + 2 * length packed.speed) number at
      (data_bytes (layout.holds NOTE_DEPENDENT) packed start) (λ row. row.right) (layout.address SLIDES_LOW) bytes
      (kept_stand (layout.holds NOTE_DEPENDENT) packed start e).low (low_address_is layout packed start laid e) refl
      inside;
  high = λ e number inside small.
      slide_byte packed start (2 + 2 * length packed.speed + slide_rows packed) number at
      (data_bytes (layout.holds NOTE_DEPENDENT) packed start) (λ row. row.left) (layout.address SLIDES_HIGH) bytes
      (kept_stand (layout.holds NOTE_DEPENDENT) packed start e).high (high_address_is layout packed start laid e) refl
      inside;
  low_is = λ e.
      let place = low_is_speed (layout.holds NOTE_DEPENDENT) packed e in
      let one = label_at 32 (omega arith) in
      let two = label_at 4 (omega arith) in
      omega arith;
  high_is = λ e.
      let place = high_is_speed (layout.holds NOTE_DEPENDENT) packed e in
      let one = label_at 33 (omega arith) in
      let two = label_at 5 (omega arith) in
      omega arith;
  periods = λ e.
      let place = periods_are_speed (layout.holds NOTE_DEPENDENT) packed e in
      let one = label_at 6 (omega arith) in
      let two = label_at 5 (omega arith) in
      omega arith;
}
  where
    label_at : (k : ℕ) → k < 36 →
        layout.address (get_or (list_marks (layout.holds NOTE_DEPENDENT) packed) k no_mark).label
        ≡ start + (get_or (list_marks (layout.holds NOTE_DEPENDENT) packed) k no_mark).place
    label_at k below = fixed_at layout (layout.holds NOTE_DEPENDENT) packed start k no_mark laid.laid below

pub data_stands : (layout : Layout) (packed : PackedSong) (start : ℕ) (at : ℕ → ℕ) →
    IsListLayout layout packed start →
    BytesStand at start (data_bytes (layout.holds NOTE_DEPENDENT) packed start) → DataStandsIn layout packed at
data_stands layout packed start at laid bytes = record {
  lists = λ list number is has.
      let dependent = layout.holds NOTE_DEPENDENT in
      let i = number - first_number packed list in
      let here = stands_at layout packed start list number laid is has in
      let there = list_stands dependent packed start list (is_written layout packed list is) in
      let count = has_length dependent packed start list (is_written layout packed list is) in
      let whole = data_takes_size dependent packed start in
      let within = here.within in
      let below = here.below in
      ap at here.place
      ∙ bytes.byte (label_place dependent packed list + first_number packed list + i) (omega arith)
      ∙ there.byte i (omega arith)
      ∙ has_bytes layout dependent packed start list i number laid.laid (is_written layout packed list is) here.below
      here.number_is;
  slides = slides_stand_in layout packed start at laid bytes;
}
