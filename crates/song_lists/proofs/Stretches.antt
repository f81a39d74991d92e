-- Where each list of a packed song stands in the bytes of all.
use Rattle.std.proofs.Common.{◌≡◌, ℕ, zero, suc, ◌+◌, ◌-◌, ◌*◌, ◌<◌, ◌≤◌, inl, inr, Bool, true, false, List}
use Rattle.std.proofs.Common.{[], ◌∷◌, ◌++◌, length}
use Rattle.std.proofs.Common.{get_or, refl, sym, ap, ◌∙◌, subst, arith}
use Rattle.std.specs.List.{concat}
use Rattle.std.proofs.lemmas.Bool.{cases_lt}
use Rattle.song_model.specs.declared.tables.TableName.TheVariants.{Wave, Pulse, Filter, Speed}
use Rattle.packed_form.specs.declared.packed_songs.PackedSubtune.{PackedSubtune}
use Rattle.packed_form.specs.declared.packed_songs.PackedSong.{PackedSong}
use Rattle.player_memory.specs.SongLists.{SongList, FrequencyLows, FrequencyHighs, Lefts, Rights, Periods, Instruments}
use Rattle.player_memory.specs.SongLists.{OneTimer, OneWave, GateFrom, EnvelopeFrom, OrderLows, OrderHighs}
use Rattle.player_memory.specs.SongLists.{PatternLows, PatternHighs, OrderBytes, PatternBytes}
use Rattle.player_memory.specs.SongLists.{first_number, order_bytes, pattern_bytes, channel_bytes, no_subtune}
use Rattle.player_memory.specs.SongLists.{is_read, has_gate_from, has_envelope_from, gap_size, slide_rows}
use Rattle.player_memory.proofs.Laws.{read_below}
use Rattle.song_lists.specs.DataLists.{frequency_lows, frequency_highs, lefts, rights, stored_rows, periods}
use Rattle.song_lists.specs.DataLists.{instrument_bytes, one_timer_bytes, one_wave_bytes, gate_from_bytes}
use Rattle.song_lists.specs.DataLists.{envelope_from_bytes, all_orders, orders_of}
use Rattle.song_lists.specs.DataLists.{lows, highs, periods_place}
use Rattle.song_lists.specs.DataLists.{orders_place, patterns_place, order_places, listed_places, pattern_places}
use Rattle.song_lists.specs.DataLists.{data_bytes}
use Rattle.song_lists.specs.DataLists.{frequencies_place, bytes_back, gap_bytes, frequency_lists, label_place}
use Rattle.song_lists.proofs.Pieces.{StandsIn, size_before, piece_stands, stands_before, stands_after, place_at}
use Rattle.song_lists.proofs.Pieces.{order_at, orders_count}
use Rattle.song_lists.proofs.Lists.{fixed_lists, own_lists, lengths, field_sums, gap_count, fixed_size, lows_count}
use Rattle.song_lists.proofs.Lists.{highs_count, whole_length}
use Rattle.song_lists.proofs.Lists.{frequency_labels}

-- ---- the bytes of a list as they are read: the speed table from its row 0 on

abbrev pub written : Bool → PackedSong → ℕ → SongList → List ℕ
written dependent packed start FrequencyLows = frequency_lows packed
written dependent packed start FrequencyHighs = frequency_highs packed
written dependent packed start (Lefts Speed) = 0 ∷ lefts packed.speed
written dependent packed start (Lefts Wave) = lefts (stored_rows packed.wave)
written dependent packed start (Lefts Pulse) = lefts packed.pulse
written dependent packed start (Lefts Filter) = lefts packed.filter
written dependent packed start (Rights Speed) = 0 ∷ rights packed.speed
written dependent packed start (Rights Wave) = rights (stored_rows packed.wave)
written dependent packed start (Rights Pulse) = rights packed.pulse
written dependent packed start (Rights Filter) = rights packed.filter
written dependent packed start Periods = 0 ∷ periods packed.speed
written dependent packed start (Instruments field) = instrument_bytes packed field
written dependent packed start OneTimer = one_timer_bytes packed
written dependent packed start OneWave = one_wave_bytes packed
written dependent packed start GateFrom = gate_from_bytes packed
written dependent packed start EnvelopeFrom = envelope_from_bytes packed
written dependent packed start OrderLows = lows start 0 (listed_places dependent packed)
written dependent packed start OrderHighs = highs start 0 (listed_places dependent packed)
written dependent packed start PatternLows = lows start 1 (pattern_places dependent packed)
written dependent packed start PatternHighs = highs start 1 (pattern_places dependent packed)
written dependent packed start (OrderBytes subtune channel) = order_bytes packed subtune channel
written dependent packed start (PatternBytes pattern) = pattern_bytes packed pattern

-- a list of the song's, as the flag says
abbrev pub IsWritten : Bool → PackedSong → SongList → Type 0
IsWritten dependent packed Periods = dependent ≡ true
IsWritten dependent packed (Instruments field) = is_read packed field ≡ true
IsWritten dependent packed OneTimer = packed.facts.own_timer ≡ false
IsWritten dependent packed OneWave = packed.facts.own_wave ≡ false
IsWritten dependent packed GateFrom = has_gate_from packed ≡ true
IsWritten dependent packed EnvelopeFrom = has_envelope_from packed ≡ true
IsWritten dependent packed OrderLows = packed.facts.subtunes ≡ true
IsWritten dependent packed OrderHighs = packed.facts.subtunes ≡ true
IsWritten dependent packed (OrderBytes subtune channel) = (subtune < length packed.subtunes) × (channel < 3)
IsWritten dependent packed (PatternBytes pattern) = pattern < length packed.patterns
IsWritten dependent packed list = Unit {0}

-- ---- the lists that each song has

fixed_stands : (dependent : Bool) (packed : PackedSong) (start k place : ℕ) →
    k < length (fixed_lists dependent packed start) →
    size_before k (fixed_lists dependent packed start) ≡ place →
    StandsIn (data_bytes dependent packed start) place (get_or (fixed_lists dependent packed start) k [])
fixed_stands dependent packed start k place inside e =
    subst
    (λ (p : ℕ). StandsIn (data_bytes dependent packed start) p (get_or (fixed_lists dependent packed start) k [])) e
    (stands_before (fixed_lists dependent packed start) (own_lists packed)
    (size_before k (fixed_lists dependent packed start))
    (get_or (fixed_lists dependent packed start) k []) (piece_stands (fixed_lists dependent packed start) k inside))

pub below_9 : (P : ℕ → Type 0) → P 0 → P 1 → P 2 → P 3 → P 4 → P 5 → P 6 → P 7 → P 8 → (n : ℕ) →
    n < 9 → P n
below_9 P a b c d e f g h i zero inside = a
below_9 P a b c d e f g h i (suc zero) inside = b
below_9 P a b c d e f g h i (suc (suc zero)) inside = c
below_9 P a b c d e f g h i (suc (suc (suc zero))) inside = d
below_9 P a b c d e f g h i (suc (suc (suc (suc zero)))) inside = e
below_9 P a b c d e f g h i (suc (suc (suc (suc (suc zero))))) inside = f
below_9 P a b c d e f g h i (suc (suc (suc (suc (suc (suc zero)))))) inside = g
below_9 P a b c d e f g h i (suc (suc (suc (suc (suc (suc (suc zero))))))) inside = h
below_9 P a b c d e f g h i (suc (suc (suc (suc (suc (suc (suc (suc zero)))))))) inside = i
below_9 P a b c d e f g h i (suc (suc (suc (suc (suc (suc (suc (suc (suc n))))))))) inside = absurd (omega arith)

instruments_stand : (dependent : Bool) (packed : PackedSong) (start field : ℕ) → field < 9 →
    StandsIn (data_bytes dependent packed start) (label_place dependent packed (Instruments field) + 1)
    (instrument_bytes packed field)
instruments_stand dependent packed start =
    let each = lengths dependent packed start in
    let sums = field_sums packed in
    below_9
    (λ field. StandsIn (data_bytes dependent packed start) (label_place dependent packed (Instruments field) + 1)
    (instrument_bytes packed field))
    (fixed_stands dependent packed start 11 _ (omega arith) (omega arith))
    (fixed_stands dependent packed start 12 _ (omega arith) (omega arith))
    (fixed_stands dependent packed start 13 _ (omega arith) (omega arith))
    (fixed_stands dependent packed start 14 _ (omega arith) (omega arith))
    (fixed_stands dependent packed start 15 _ (omega arith) (omega arith))
    (fixed_stands dependent packed start 16 _ (omega arith) (omega arith))
    (fixed_stands dependent packed start 17 _ (omega arith) (omega arith))
    (fixed_stands dependent packed start 18 _ (omega arith) (omega arith))
    (fixed_stands dependent packed start 19 _ (omega arith) (omega arith))

-- ---- orderlists and patterns

moved : (whole : List ℕ) (p q : ℕ) (one other : List ℕ) → p ≡ q → one ≡ other → StandsIn whole p one →
    StandsIn whole q other
moved whole p q one other place piece there =
    subst (λ (list : List ℕ). StandsIn whole q list) piece (subst (λ (n : ℕ). StandsIn whole n one) place there)

own_stands : (dependent : Bool) (packed : PackedSong) (start place : ℕ) (piece : List ℕ) →
    StandsIn (concat (own_lists packed)) place piece →
    StandsIn (data_bytes dependent packed start) (orders_place dependent packed + place) piece
own_stands dependent packed start place piece there =
    subst (λ (p : ℕ). StandsIn (data_bytes dependent packed start) (p + place) piece)
    (fixed_size dependent packed start)
    (stands_after (fixed_lists dependent packed start) (own_lists packed) place piece there)

three_orders : (channel : ℕ) (subtune : PackedSubtune) → channel < 3 →
    get_or (orders_of subtune) channel [] ≡ channel_bytes channel subtune
three_orders zero subtune below = refl
three_orders (suc zero) subtune below = refl
three_orders (suc (suc zero)) subtune below = refl
three_orders (suc (suc (suc channel))) subtune below = absurd (omega arith)

orders_stand : (dependent : Bool) (packed : PackedSong) (start subtune channel : ℕ) →
    subtune < length packed.subtunes → channel < 3 →
    StandsIn (data_bytes dependent packed start) (label_place dependent packed (OrderBytes subtune channel))
    (order_bytes packed subtune channel)
orders_stand dependent packed start subtune channel inside below =
    let count = orders_count packed.subtunes in
    let there : 3 * subtune + channel < length (all_orders packed) = omega arith in
    let place : get_or (order_places dependent packed) (3 * subtune + channel) 0
    ≡ orders_place dependent packed + size_before (3 * subtune + channel) (all_orders packed) =
    place_at (orders_place dependent packed) (all_orders packed) (3 * subtune + channel) there in
    let piece : get_or (all_orders packed) (3 * subtune + channel) [] ≡ order_bytes packed subtune channel =
    order_at packed.subtunes subtune channel no_subtune inside below
    ∙ three_orders channel (get_or packed.subtunes subtune no_subtune) below in
    moved (data_bytes dependent packed start)
    (orders_place dependent packed + size_before (3 * subtune + channel) (all_orders packed))
    (get_or (order_places dependent packed) (3 * subtune + channel) 0)
    (get_or (all_orders packed) (3 * subtune + channel) [])
    (order_bytes packed subtune channel) (sym place) piece
    (own_stands dependent packed start (size_before (3 * subtune + channel) (all_orders packed))
    (get_or (all_orders packed) (3 * subtune + channel) [])
    (stands_before (all_orders packed) (packed.patterns ++ frequency_lists packed)
    (size_before (3 * subtune + channel) (all_orders packed))
    (get_or (all_orders packed) (3 * subtune + channel) [])
    (piece_stands (all_orders packed) (3 * subtune + channel) there)))

patterns_stand : (dependent : Bool) (packed : PackedSong) (start pattern : ℕ) → pattern < length packed.patterns →
    StandsIn (data_bytes dependent packed start) (label_place dependent packed (PatternBytes pattern))
    (pattern_bytes packed pattern)
patterns_stand dependent packed start pattern inside =
    let place : orders_place dependent packed
    + (length (concat (all_orders packed)) + size_before pattern packed.patterns)
    ≡ get_or (pattern_places dependent packed) pattern 0 =
    let there = place_at (patterns_place dependent packed) packed.patterns pattern inside in omega arith in
    moved (data_bytes dependent packed start)
    (orders_place dependent packed + (length (concat (all_orders packed)) + size_before pattern packed.patterns))
    (get_or (pattern_places dependent packed) pattern 0) (pattern_bytes packed pattern)
    (pattern_bytes packed pattern) place refl
    (own_stands dependent packed start (length (concat (all_orders packed)) + size_before pattern packed.patterns)
    (pattern_bytes packed pattern)
    (stands_after (all_orders packed) (packed.patterns ++ frequency_lists packed) (size_before pattern packed.patterns)
    (pattern_bytes packed pattern)
    (stands_before packed.patterns (frequency_lists packed) (size_before pattern packed.patterns)
    (pattern_bytes packed pattern) (piece_stands packed.patterns pattern inside))))

-- ---- frequencies

-- behind the patterns
last_stands : (dependent : Bool) (packed : PackedSong) (start k place : ℕ) → k < 3 →
    size_before k (frequency_lists packed) ≡ gap_size packed + place →
    StandsIn (data_bytes dependent packed start) (frequencies_place dependent packed + place)
    (get_or (frequency_lists packed) k [])
last_stands dependent packed start k place inside e =
    moved (data_bytes dependent packed start)
    (orders_place dependent packed + (length (concat (all_orders packed)) + (length (concat packed.patterns)
    + size_before k (frequency_lists packed)))) (frequencies_place dependent packed + place)
    (get_or (frequency_lists packed) k []) (get_or (frequency_lists packed) k [])
    (sum (orders_place dependent packed) (length (concat (all_orders packed))) (length (concat packed.patterns))
    (size_before k (frequency_lists packed)) (gap_size packed) place e) refl
    (own_stands dependent packed start (length (concat (all_orders packed)) + (length (concat packed.patterns)
    + size_before k (frequency_lists packed))) (get_or (frequency_lists packed) k [])
    (stands_after (all_orders packed) (packed.patterns ++ frequency_lists packed)
    (length (concat packed.patterns) + size_before k (frequency_lists packed)) (get_or (frequency_lists packed) k [])
    (stands_after packed.patterns (frequency_lists packed) (size_before k (frequency_lists packed))
    (get_or (frequency_lists packed) k []) (piece_stands (frequency_lists packed) k inside))))
  where
    sum : (orders texts patterns before gap place : ℕ) → before ≡ gap + place →
        orders + (texts + (patterns + before)) ≡ orders + texts + patterns + gap + place
    sum orders texts patterns before gap place e = omega (arith, e)

-- a list of nothing stands wherever the bytes reach
nothing_stands : (whole piece : List ℕ) (place : ℕ) → length piece ≡ 0 → place ≤ length whole →
    StandsIn whole place piece
nothing_stands whole piece place none reach = record {
  inside = omega (arith, none, reach);
  byte = λ i inside. absurd (omega (arith, none, inside));
}

-- the first one, or each of them where there are none, is as far behind its label as its first number says
from_label : (place back first listed before : ℕ) → back ≤ place → (1 ≤ listed → back ≡ first) → 1 ≤ listed →
    place + before - back + first ≡ place + before
from_label place back first listed before within same some = omega (arith, within, same some)

to_end : (place back first listed before whole : ℕ) → first ≤ back → back ≤ place → before ≤ listed →
    whole ≡ place + 2 * listed → place + before - back + first ≤ whole
to_end place back first listed before whole least within few e = omega (arith, least, within, few, e)

frequencies_stand : (dependent : Bool) (packed : PackedSong) (start k before : ℕ) → k < 3 →
    size_before k (frequency_lists packed) ≡ gap_size packed + before → before ≤ packed.numbers.count →
    length (get_or (frequency_lists packed) k []) ≡ packed.numbers.count →
    StandsIn (data_bytes dependent packed start)
    (frequencies_place dependent packed + before - bytes_back packed + packed.numbers.first)
    (get_or (frequency_lists packed) k [])
frequencies_stand dependent packed start k before inside e few count =
    let labels = frequency_labels dependent packed in elim (cases_lt 0 packed.numbers.count) [
      | inl some ↦
          subst
          (λ (p : ℕ). StandsIn (data_bytes dependent packed start) p (get_or (frequency_lists packed) k []))
          (sym (from_label (frequencies_place dependent packed) (bytes_back packed) packed.numbers.first
          packed.numbers.count before labels.back labels.first some))
          (last_stands dependent packed start k before inside e)
      | inr none ↦
          nothing_stands (data_bytes dependent packed start) (get_or (frequency_lists packed) k [])
          (frequencies_place dependent packed + before - bytes_back packed + packed.numbers.first)
          (count ∙ none_left packed.numbers.count none)
          (to_end (frequencies_place dependent packed) (bytes_back packed) packed.numbers.first
          packed.numbers.count before (length (data_bytes dependent packed start)) labels.least labels.back few
          (whole_length dependent packed start))
    ]
  where
    none_left : (n : ℕ) → n ≤ 0 → n ≡ 0
    none_left n le = omega (arith, le)

-- ---- all of them

-- the lists of calculated speeds, each with row 0 as its first byte
pub record KeptStand (packed : PackedSong) (whole : List ℕ) : Type 0 where
  pub low : StandsIn whole (2 + 2 * length packed.speed) (0 ∷ rights packed.speed)
  pub high : StandsIn whole (2 + 2 * length packed.speed + slide_rows packed) (0 ∷ lefts packed.speed)
  pub periods : StandsIn whole (2 + 2 * length packed.speed + 2 * slide_rows packed) (0 ∷ periods packed.speed)

slides_begin : (packed : PackedSong) (start : ℕ) →
    size_before 2 (fixed_lists true packed start) ≡ 2 + 2 * length packed.speed
slides_begin packed start = let each = lengths true packed start in omega arith

pub slides_stand : (packed : PackedSong) (start : ℕ) → KeptStand packed (data_bytes true packed start)
slides_stand packed start =
    let each = lengths true packed start in record {
      low = fixed_stands true packed start 2 _ (omega arith) (slides_begin packed start);
      high = fixed_stands true packed start 3 _ (omega arith) (omega arith);
      periods = fixed_stands true packed start 4 _ (omega arith) (omega arith);
    }

periods_stand : (dependent : Bool) (packed : PackedSong) (start : ℕ) → dependent ≡ true →
    StandsIn (data_bytes dependent packed start) (periods_place dependent packed + 0) (0 ∷ periods packed.speed)
periods_stand true packed start is =
    let place : 2 + 2 * length packed.speed + 2 * slide_rows packed
    ≡ 2 + 2 * length packed.speed + 2 * slide_rows packed + 0 = omega arith in
    subst (λ (p : ℕ). StandsIn (data_bytes true packed start) p (0 ∷ periods packed.speed)) place
    (slides_stand packed start).periods
periods_stand false packed start is = absurd (cc)

pub list_stands : (dependent : Bool) (packed : PackedSong) (start : ℕ) (list : SongList) →
    IsWritten dependent packed list →
    StandsIn (data_bytes dependent packed start) (label_place dependent packed list + first_number packed list)
    (written dependent packed start list)
list_stands dependent packed start FrequencyLows is =
    subst
    (λ (p : ℕ). StandsIn (data_bytes dependent packed start) (p - bytes_back packed + packed.numbers.first)
    (frequency_lows packed)) (no_more (frequencies_place dependent packed))
    (frequencies_stand dependent packed start 1 0 (omega arith) (ap (λ (gap : ℕ). gap + 0) (gap_count packed))
    (omega arith) (lows_count packed))
  where
    no_more : (place : ℕ) → place + 0 ≡ place
    no_more place = omega arith
list_stands dependent packed start FrequencyHighs is =
    frequencies_stand dependent packed start 2 packed.numbers.count (omega arith)
    (both (length (gap_bytes packed)) (length (frequency_lows packed)) (gap_size packed) packed.numbers.count
    (gap_count packed) (lows_count packed)) (omega arith)
    (highs_count packed)
  where
    both : (filled count gap listed : ℕ) → filled ≡ gap → count ≡ listed → filled + (count + 0) ≡ gap + listed
    both filled count gap listed d e = omega (arith, d, e)
list_stands dependent packed start (Lefts Wave) is =
    let each = lengths dependent packed start in
    fixed_stands dependent packed start 5 _ (omega arith) (omega arith)
list_stands dependent packed start (Rights Wave) is =
    let each = lengths dependent packed start in
    fixed_stands dependent packed start 6 _ (omega arith) (omega arith)
list_stands dependent packed start (Lefts Pulse) is =
    let each = lengths dependent packed start in
    fixed_stands dependent packed start 7 _ (omega arith) (omega arith)
list_stands dependent packed start (Rights Pulse) is =
    let each = lengths dependent packed start in
    fixed_stands dependent packed start 8 _ (omega arith) (omega arith)
list_stands dependent packed start (Lefts Filter) is =
    let each = lengths dependent packed start in
    fixed_stands dependent packed start 9 _ (omega arith) (omega arith)
list_stands dependent packed start (Rights Filter) is =
    let each = lengths dependent packed start in
    fixed_stands dependent packed start 10 _ (omega arith) (omega arith)
list_stands dependent packed start (Lefts Speed) is =
    let each = lengths dependent packed start in
    fixed_stands dependent packed start 1 _ (omega arith) (omega arith)
list_stands dependent packed start (Rights Speed) is =
    fixed_stands dependent packed start 0 _ (omega arith) refl
list_stands dependent packed start Periods is = periods_stand dependent packed start is
list_stands dependent packed start (Instruments field) is =
    instruments_stand dependent packed start field (read_below packed field is)
list_stands dependent packed start OneTimer is =
    let each = lengths dependent packed start in
    let sums = field_sums packed in
    fixed_stands dependent packed start 20 _ (omega arith) (omega arith)
list_stands dependent packed start OneWave is =
    let each = lengths dependent packed start in
    let sums = field_sums packed in
    fixed_stands dependent packed start 21 _ (omega arith) (omega arith)
list_stands dependent packed start GateFrom is =
    let each = lengths dependent packed start in
    let sums = field_sums packed in
    fixed_stands dependent packed start 22 _ (omega arith) (omega arith)
list_stands dependent packed start EnvelopeFrom is =
    let each = lengths dependent packed start in
    let sums = field_sums packed in
    fixed_stands dependent packed start 23 _ (omega arith) (omega arith)
list_stands dependent packed start OrderLows is =
    let each = lengths dependent packed start in
    let sums = field_sums packed in
    fixed_stands dependent packed start 24 _ (omega arith) (omega arith)
list_stands dependent packed start OrderHighs is =
    let each = lengths dependent packed start in
    let sums = field_sums packed in
    fixed_stands dependent packed start 25 _ (omega arith) (omega arith)
list_stands dependent packed start PatternLows is =
    let each = lengths dependent packed start in
    let sums = field_sums packed in
    fixed_stands dependent packed start 26 _ (omega arith) (omega arith)
list_stands dependent packed start PatternHighs is =
    let each = lengths dependent packed start in
    let sums = field_sums packed in
    fixed_stands dependent packed start 27 _ (omega arith) (omega arith)
list_stands dependent packed start (OrderBytes subtune channel) is =
    let place : label_place dependent packed (OrderBytes subtune channel)
    ≡ label_place dependent packed (OrderBytes subtune channel) + 0 = omega arith in
    subst (λ (p : ℕ). StandsIn (data_bytes dependent packed start) p (order_bytes packed subtune channel)) place
    (orders_stand dependent packed start subtune channel is.0 is.1)
list_stands dependent packed start (PatternBytes pattern) is =
    let place : label_place dependent packed (PatternBytes pattern)
    ≡ label_place dependent packed (PatternBytes pattern) + 0 =
    omega arith in
    subst (λ (p : ℕ). StandsIn (data_bytes dependent packed start) p (pattern_bytes packed pattern)) place
    (patterns_stand dependent packed start pattern is)
