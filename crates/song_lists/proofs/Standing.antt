-- The lists of a packed song in memory: each at its label, byte for byte.
use Rattle.std.proofs.Common.{◌≡◌, ℕ, zero, suc, ◌+◌, ◌-◌, ◌*◌, ◌/◌, ◌%◌, ◌<◌, Bool, true, if◌then◌else◌}
use Rattle.std.proofs.Common.{List, [], ◌∷◌, ◌++◌, length, get_or, map, replicate, refl, sym, ap, ◌∙◌, arith}
use Rattle.std.proofs.Common.{Contains, slice_index}
use Rattle.std.proofs.lemmas.Bool.{ne_eqb}
use Rattle.std.proofs.lemmas.List.{length-map, get_or-map}
use Rattle.std.proofs.lemmas.List.Elements.{Contains-get_or, Contains-append_left, Contains-append_right}
use Rattle.std.proofs.lemmas.List.FromFn.{get_or-map-range_with_len}
use Rattle.song_model.specs.declared.tables.TableRow.{TableRow}
use Rattle.song_model.specs.declared.tables.TableName.TheVariants.{Wave, Pulse, Filter, Speed}
use Rattle.song_model.specs.declared.songs.Song.{Song}
use Rattle.song_model.specs.declared.tables.TableName.{TableName}
use Rattle.song_model.specs.LookUp.{table_of, instrument_at, table_row, zero_instrument, zero_table_row}
use Rattle.play_model.specs.Freq.{freq}
use Rattle.song_facts.specs.Facts.{timer_of}
use Rattle.song_facts.specs.declared.hold.Hold.TheVariants.{Envelope, Gate}
use Rattle.packed_form.specs.declared.packed_songs.PackedInstrument.{PackedInstrument}
use Rattle.packed_form.specs.declared.packed_songs.PackedSong.{PackedSong}
use Rattle.packed_form.specs.Unpacked.{unpacked_instrument, unpacked_song}
use Rattle.packed_form.specs.Holders.{first_holder}
use Rattle.scopes.specs.Desk.{Layout}
use Rattle.player_memory.specs.declared.labels.TheConstants.{ORDERS, PATTERNS}
use Rattle.player_memory.specs.Forms.{stored}
use Rattle.player_memory.specs.SongLists.{SongList, FrequencyLows, FrequencyHighs, Lefts, Rights, Periods, Instruments}
use Rattle.player_memory.specs.SongLists.{OneTimer, OneWave, GateFrom, EnvelopeFrom, OrderLows, OrderHighs}
use Rattle.player_memory.specs.SongLists.{PatternLows, PatternHighs, OrderBytes, PatternBytes}
use Rattle.player_memory.specs.SongLists.{is_read, list_label, list_length, list_byte, first_number, instrument_byte}
use Rattle.player_memory.specs.SongLists.{order_bytes, pattern_bytes}
use Rattle.player_memory.proofs.Laws.{read_below}
use Rattle.song_lists.specs.declared.marks.Mark.{Mark}
use Rattle.song_lists.specs.Marks.{mark_at}
use Rattle.song_lists.specs.DataLists.{frequency_lows, frequency_highs, lefts, rights, stored_rows}
use Rattle.song_lists.specs.DataLists.{field_bytes, instrument_bytes, one_timer_bytes, one_wave_bytes, gate_from_bytes}
use Rattle.song_lists.specs.DataLists.{envelope_from_bytes}
use Rattle.song_lists.specs.DataLists.{lows, highs, order_places, pattern_places, patterns_place}
use Rattle.song_lists.specs.DataLists.{label_place, marks_from, list_marks, data_marks, IsDataLayout}
use Rattle.song_lists.proofs.Pieces.{places_count}
use Rattle.song_lists.proofs.Lists.{lengths, field_count, lows_count, highs_count, order_places_count}
use Rattle.song_lists.proofs.Stretches.{written, IsWritten, below_9}

-- ---- addresses

pub marks_count : (label : ℕ) (places : List ℕ) → length (marks_from label places) ≡ length places
marks_count label [] = refl
marks_count label (place ∷ places) = ap (λ (n : ℕ). suc n) (marks_count (label + 1) places)

pub marks_at : (label : ℕ) (places : List ℕ) (k : ℕ) (d : Mark) → k < length places →
    get_or (marks_from label places) k d ≡ record { label = label + k; place = get_or places k 0 }
marks_at label [] k d inside = absurd (omega arith)
marks_at label (place ∷ places) zero d inside =
    let e : label ≡ label + 0 = omega arith in
    ap (λ (n : ℕ). let mark : Mark = record { label = n; place = place } in mark) e
marks_at label (place ∷ places) (suc k) d inside =
    let e : label + 1 + k ≡ label + suc k = omega arith in
    marks_at (label + 1) places k d (omega arith)
    ∙ ap (λ (n : ℕ). let mark : Mark = record { label = n; place = get_or places k 0 } in mark) e

marks_have : (label : ℕ) (places : List ℕ) (k : ℕ) → k < length places →
    Contains (marks_from label places) (record { label = label + k; place = get_or places k 0 })
marks_have label places k inside = (
  k,
  omega (arith, marks_count label places),
  marks_at label places k (record { label = label + k; place = get_or places k 0 }) inside,
)

pub fixed_at : (layout : Layout) (dependent : Bool) (packed : PackedSong) (start k : ℕ) (d : Mark) →
    IsDataLayout layout dependent packed start →
    k < 36 →
    layout.address (get_or (list_marks dependent packed) k d).label
    ≡ start + (get_or (list_marks dependent packed) k d).place
fixed_at layout dependent packed start k d laid inside =
    laid.stands (get_or (list_marks dependent packed) k d)
    (Contains-append_left (list_marks dependent packed)
    (marks_from ORDERS (order_places dependent packed) ++ marks_from PATTERNS (pattern_places dependent packed))
    (get_or (list_marks dependent packed) k d) (Contains-get_or (list_marks dependent packed) k d inside))

-- the label of each orderlist is among the labels, at its place
order_is_marked : (dependent : Bool) (packed : PackedSong) (k : ℕ) → k < 3 * length packed.subtunes →
    Contains (data_marks dependent packed) (mark_at (ORDERS + k) (get_or (order_places dependent packed) k 0))
order_is_marked dependent packed k inside =
    let mark : Mark = mark_at (ORDERS + k) (get_or (order_places dependent packed) k 0) in
    let there : k < length (order_places dependent packed) = omega (arith, order_places_count dependent packed) in
    Contains-append_right (list_marks dependent packed)
    (marks_from ORDERS (order_places dependent packed) ++ marks_from PATTERNS (pattern_places dependent packed)) mark
    (Contains-append_left (marks_from ORDERS (order_places dependent packed))
    (marks_from PATTERNS (pattern_places dependent packed)) mark
    (marks_have ORDERS (order_places dependent packed) k there))

-- so are those of the first subtune's three
pub first_orders_are_marked : (dependent : Bool) (packed : PackedSong) (voice : ℕ) → voice < 3 →
    0 < length packed.subtunes →
    Contains (data_marks dependent packed)
    (mark_at (ORDERS + voice) (slice_index (order_places dependent packed) voice))
first_orders_are_marked dependent packed voice below some =
    order_is_marked dependent packed voice (omega arith)

pub order_at_label : (layout : Layout) (dependent : Bool) (packed : PackedSong) (start k : ℕ) →
    IsDataLayout layout dependent packed start →
    k < 3 * length packed.subtunes → layout.address (ORDERS + k) ≡ start + get_or (order_places dependent packed) k 0
order_at_label layout dependent packed start k laid inside =
    laid.stands (mark_at (ORDERS + k) (get_or (order_places dependent packed) k 0))
    (order_is_marked dependent packed k inside)

pub pattern_at_label : (layout : Layout) (dependent : Bool) (packed : PackedSong) (start k : ℕ) →
    IsDataLayout layout dependent packed start →
    k < length packed.patterns → layout.address (PATTERNS + k) ≡ start + get_or (pattern_places dependent packed) k 0
pattern_at_label layout dependent packed start k laid inside =
    let mark : Mark = record { label = PATTERNS + k; place = get_or (pattern_places dependent packed) k 0 } in
    let there : k < length (pattern_places dependent packed) =
    omega (arith, places_count (patterns_place dependent packed) packed.patterns) in
    laid.stands mark
    (Contains-append_right (list_marks dependent packed)
    (marks_from ORDERS (order_places dependent packed) ++ marks_from PATTERNS (pattern_places dependent packed)) mark
    (Contains-append_right (marks_from ORDERS (order_places dependent packed))
    (marks_from PATTERNS (pattern_places dependent packed)) mark
    (marks_have PATTERNS (pattern_places dependent packed) k there)))

-- ---- a list begins so far behind its label

abbrev pub no_mark : Mark
no_mark = record { label = 0; place = 0 }

instruments_begin : (layout : Layout) (dependent : Bool) (packed : PackedSong) (start field : ℕ) →
    IsDataLayout layout dependent packed start →
    field < 9 →
    layout.address (list_label (Instruments field)) ≡ start + label_place dependent packed (Instruments field)
instruments_begin layout dependent packed start field laid =
    below_9
    (λ n. layout.address (list_label (Instruments n)) ≡ start + label_place dependent packed (Instruments n))
    (fixed_at layout dependent packed start 17 no_mark laid (omega arith))
    (fixed_at layout dependent packed start 18 no_mark laid (omega arith))
    (fixed_at layout dependent packed start 19 no_mark laid (omega arith))
    (fixed_at layout dependent packed start 20 no_mark laid (omega arith))
    (fixed_at layout dependent packed start 21 no_mark laid (omega arith))
    (fixed_at layout dependent packed start 22 no_mark laid (omega arith))
    (fixed_at layout dependent packed start 23 no_mark laid (omega arith))
    (fixed_at layout dependent packed start 24 no_mark laid (omega arith))
    (fixed_at layout dependent packed start 25 no_mark laid (omega arith))
    field

pub begins_at : (layout : Layout) (dependent : Bool) (packed : PackedSong) (start : ℕ) (list : SongList) →
    IsDataLayout layout dependent packed start → IsWritten dependent packed list →
    layout.address (list_label list) ≡ start + label_place dependent packed list
begins_at layout dependent packed start FrequencyLows laid is =
    fixed_at layout dependent packed start 0 no_mark laid (omega arith)
begins_at layout dependent packed start FrequencyHighs laid is =
    fixed_at layout dependent packed start 2 no_mark laid (omega arith)
begins_at layout dependent packed start (Rights Speed) laid is =
    fixed_at layout dependent packed start 4 no_mark laid (omega arith)
begins_at layout dependent packed start (Lefts Speed) laid is =
    fixed_at layout dependent packed start 5 no_mark laid (omega arith)
begins_at layout dependent packed start Periods laid is =
    fixed_at layout dependent packed start 6 no_mark laid (omega arith)
begins_at layout dependent packed start (Lefts Wave) laid is =
    fixed_at layout dependent packed start 7 no_mark laid (omega arith)
begins_at layout dependent packed start (Rights Wave) laid is =
    fixed_at layout dependent packed start 9 no_mark laid (omega arith)
begins_at layout dependent packed start (Lefts Pulse) laid is =
    fixed_at layout dependent packed start 11 no_mark laid (omega arith)
begins_at layout dependent packed start (Rights Pulse) laid is =
    fixed_at layout dependent packed start 13 no_mark laid (omega arith)
begins_at layout dependent packed start (Lefts Filter) laid is =
    fixed_at layout dependent packed start 14 no_mark laid (omega arith)
begins_at layout dependent packed start (Rights Filter) laid is =
    fixed_at layout dependent packed start 16 no_mark laid (omega arith)
begins_at layout dependent packed start OrderLows laid is =
    fixed_at layout dependent packed start 26 no_mark laid (omega arith)
begins_at layout dependent packed start OrderHighs laid is =
    fixed_at layout dependent packed start 27 no_mark laid (omega arith)
begins_at layout dependent packed start PatternLows laid is =
    fixed_at layout dependent packed start 28 no_mark laid (omega arith)
begins_at layout dependent packed start PatternHighs laid is =
    fixed_at layout dependent packed start 29 no_mark laid (omega arith)
begins_at layout dependent packed start OneTimer laid is =
    fixed_at layout dependent packed start 30 no_mark laid (omega arith)
begins_at layout dependent packed start OneWave laid is =
    fixed_at layout dependent packed start 31 no_mark laid (omega arith)
begins_at layout dependent packed start GateFrom laid is =
    fixed_at layout dependent packed start 34 no_mark laid (omega arith)
begins_at layout dependent packed start EnvelopeFrom laid is =
    fixed_at layout dependent packed start 35 no_mark laid (omega arith)
begins_at layout dependent packed start (Instruments field) laid is =
    instruments_begin layout dependent packed start field laid (read_below packed field is)
begins_at layout dependent packed start (OrderBytes subtune channel) laid is =
    order_at_label layout dependent packed start (3 * subtune + channel) laid (omega arith)
begins_at layout dependent packed start (PatternBytes pattern) laid is =
    pattern_at_label layout dependent packed start pattern laid is

-- ---- and has its bytes

pub has_length : (dependent : Bool) (packed : PackedSong) (start : ℕ) (list : SongList) →
    IsWritten dependent packed list → length (written dependent packed start list) ≡ list_length packed list
has_length dependent packed start FrequencyLows is = lows_count packed
has_length dependent packed start FrequencyHighs is = highs_count packed
has_length dependent packed start (Lefts Wave) is = (lengths dependent packed start).wave_lefts
has_length dependent packed start (Rights Wave) is = (lengths dependent packed start).wave_rights
has_length dependent packed start (Lefts Pulse) is = (lengths dependent packed start).pulse_lefts
has_length dependent packed start (Rights Pulse) is = (lengths dependent packed start).pulse_rights
has_length dependent packed start (Lefts Filter) is = (lengths dependent packed start).filter_lefts
has_length dependent packed start (Rights Filter) is = (lengths dependent packed start).filter_rights
has_length dependent packed start (Lefts Speed) is = let each = lengths dependent packed start in omega arith
has_length dependent packed start (Rights Speed) is = let each = lengths dependent packed start in omega arith
has_length dependent packed start Periods is =
    let count = length-map packed.speed (λ (row : TableRow). row.left % 128) in omega arith
has_length dependent packed start (Instruments field) is =
    field_count packed field ∙ ap (λ (z : Bool). if z then length packed.instruments else 0) is
has_length dependent packed start OneTimer is =
    ap (λ (z : Bool). length (if z then [] else timer_of (instrument_at (unpacked_song packed) 1) ∷ [])) is
has_length dependent packed start OneWave is =
    ap (λ (z : Bool). length (if z then [] else (instrument_at (unpacked_song packed) 1).first_wave ∷ [])) is
has_length dependent packed start GateFrom is =
    ap (λ (z : Bool). length (if z then first_holder packed Gate ∷ [] else [])) is
has_length dependent packed start EnvelopeFrom is =
    ap (λ (z : Bool). length (if z then first_holder packed Envelope ∷ [] else [])) is
has_length dependent packed start OrderLows is =
    (lengths dependent packed start).order_lows ∙ ap (λ (z : Bool). if z then 3 * length packed.subtunes else 0) is
has_length dependent packed start OrderHighs is =
    (lengths dependent packed start).order_highs ∙ ap (λ (z : Bool). if z then 3 * length packed.subtunes else 0) is
has_length dependent packed start PatternLows is = (lengths dependent packed start).pattern_lows
has_length dependent packed start PatternHighs is = (lengths dependent packed start).pattern_highs
has_length dependent packed start (OrderBytes subtune channel) is = refl
has_length dependent packed start (PatternBytes pattern) is = refl

low_at : (packed : PackedSong) (i number : ℕ) → i < packed.numbers.count → number ≡ packed.numbers.first + i →
    get_or (frequency_lows packed) i 0 ≡ freq number % 256
unfolding frequency_lows
low_at packed i number inside e =
    get_or-map-range_with_len (λ n. freq n % 256) packed.numbers.first packed.numbers.count i number 0 inside (sym e)

high_at : (packed : PackedSong) (i number : ℕ) → i < packed.numbers.count → number ≡ packed.numbers.first + i →
    get_or (frequency_highs packed) i 0 ≡ freq number / 256
unfolding frequency_highs
high_at packed i number inside e =
    get_or-map-range_with_len (λ n. freq n / 256) packed.numbers.first packed.numbers.count i number 0 inside (sym e)

row_at : (song : Song) (name : TableName) (n i : ℕ) → n ≡ suc i →
    table_row song name n ≡ get_or (table_of song name) i zero_table_row
unfolding table_row
row_at song name n i e =
    let minus : n - 1 ≡ i = omega arith in
    let test = ne_eqb n 0 (omega arith) in
    rw (test, minus) refl

left_at : (song : Song) (name : TableName) (n i : ℕ) → n ≡ suc i → i < length (table_of song name) →
    get_or (lefts (table_of song name)) i 0 ≡ (table_row song name n).left
left_at song name n i e inside =
    get_or-map (λ (row : TableRow). row.left) (table_of song name) i zero_table_row 0 inside
    ∙ ap (λ (row : TableRow). row.left) (sym (row_at song name n i e))

right_at : (song : Song) (name : TableName) (n i : ℕ) → n ≡ suc i → i < length (table_of song name) →
    get_or (rights (table_of song name)) i 0 ≡ (table_row song name n).right
right_at song name n i e inside =
    get_or-map (λ (row : TableRow). row.right) (table_of song name) i zero_table_row 0 inside
    ∙ ap (λ (row : TableRow). row.right) (sym (row_at song name n i e))

zero_row_is : (song : Song) → table_row song Speed (0 + 0) ≡ zero_table_row
unfolding table_row
zero_row_is song = refl

pub no_instrument : PackedInstrument
no_instrument = record { bytes = replicate 9 0 }

pub stored_instrument : (packed : PackedSong) (i : ℕ) → i < length packed.instruments →
    instrument_at (unpacked_song packed) (i + 1) ≡ unpacked_instrument (get_or packed.instruments i no_instrument)
unfolding instrument_at
stored_instrument packed i inside =
    let minus : i + 1 - 1 ≡ i = omega arith in
    let test = ne_eqb (i + 1) 0 (omega arith) in
    rw (test, minus) (get_or-map unpacked_instrument packed.instruments i no_instrument zero_instrument inside)

instrument_byte_at : (packed : PackedSong) (field i : ℕ) → is_read packed field ≡ true →
    i < length packed.instruments →
    get_or (instrument_bytes packed field) i 0 ≡ instrument_byte field (instrument_at (unpacked_song packed) (i + 1))
instrument_byte_at packed field i is inside =
    ap (λ (z : Bool). get_or (if z then field_bytes packed field else []) i 0) is
    ∙ get_or-map (λ (instrument : PackedInstrument). instrument_byte field (unpacked_instrument instrument))
    packed.instruments i no_instrument 0 inside
    ∙ ap (instrument_byte field) (sym (stored_instrument packed i inside))

-- a row of the wave table in its form
stored_row_at : (song : Song) (n i : ℕ) → n ≡ suc i → i < length song.wave →
    get_or (stored_rows song.wave) i zero_table_row ≡ stored (table_row song Wave n)
stored_row_at song n i e inside =
    get_or-map stored song.wave i zero_table_row zero_table_row inside ∙ ap stored (sym (row_at song Wave n i e))

stored_left_at : (song : Song) (n i : ℕ) → n ≡ suc i → i < length song.wave →
    get_or (lefts (stored_rows song.wave)) i 0 ≡ (stored (table_row song Wave n)).left
stored_left_at song n i e inside =
    let there : i < length (stored_rows song.wave) = omega (arith, length-map song.wave stored) in
    get_or-map (λ (row : TableRow). row.left) (stored_rows song.wave) i zero_table_row 0 there
    ∙ ap (λ (row : TableRow). row.left) (stored_row_at song n i e inside)

stored_right_at : (song : Song) (n i : ℕ) → n ≡ suc i → i < length song.wave →
    get_or (rights (stored_rows song.wave)) i 0 ≡ (stored (table_row song Wave n)).right
stored_right_at song n i e inside =
    let there : i < length (stored_rows song.wave) = omega (arith, length-map song.wave stored) in
    get_or-map (λ (row : TableRow). row.right) (stored_rows song.wave) i zero_table_row 0 there
    ∙ ap (λ (row : TableRow). row.right) (stored_row_at song n i e inside)

-- and a side of the speed table, from row 0 on
pub speed_side_at : (packed : PackedSong) (side : TableRow → ℕ) (n : ℕ) → side zero_table_row ≡ 0 →
    n < suc (length packed.speed) →
    get_or (0 ∷ map side packed.speed) n 0 ≡ side (table_row (unpacked_song packed) Speed n)
speed_side_at packed side zero none inside = sym none ∙ ap side (sym (zero_row_is (unpacked_song packed)))
speed_side_at packed side (suc i) none inside =
    get_or-map side packed.speed i zero_table_row 0 (omega arith)
    ∙ ap side (sym (row_at (unpacked_song packed) Speed (suc i) i refl))

-- the addresses of these places, so many bytes back
low_address_at : (start back : ℕ) (places : List ℕ) (i n address : ℕ) → i < length places → n ≡ i →
    address ≡ start + get_or places n 0 →
    get_or (map (λ place. (start + place - back) % 256) places) i 0 ≡ (address - back) % 256
low_address_at start back places i n address inside same is =
    get_or-map (λ place. (start + place - back) % 256) places i 0 0 inside
    ∙ ap (λ (k : ℕ). (start + get_or places k 0 - back) % 256) (sym same)
    ∙ ap (λ (a : ℕ). (a - back) % 256) (sym is)

high_address_at : (start back : ℕ) (places : List ℕ) (i n address : ℕ) → i < length places → n ≡ i →
    address ≡ start + get_or places n 0 →
    get_or (map (λ place. (start + place - back) / 256) places) i 0 ≡ (address - back) / 256
high_address_at start back places i n address inside same is =
    get_or-map (λ place. (start + place - back) / 256) places i 0 0 inside
    ∙ ap (λ (k : ℕ). (start + get_or places k 0 - back) / 256) (sym same)
    ∙ ap (λ (a : ℕ). (a - back) / 256) (sym is)

pub has_bytes : (layout : Layout) (dependent : Bool) (packed : PackedSong) (start : ℕ) (list : SongList)
    (i number : ℕ) → IsDataLayout layout dependent packed start → IsWritten dependent packed list →
    i < list_length packed list → number ≡ first_number packed list + i →
    get_or (written dependent packed start list) i 0 ≡ list_byte layout packed list number
has_bytes layout dependent packed start FrequencyLows i number laid is inside at = low_at packed i number inside at
has_bytes layout dependent packed start FrequencyHighs i number laid is inside at = high_at packed i number inside at
has_bytes layout dependent packed start (Lefts Wave) i number laid is inside at =
    stored_left_at (unpacked_song packed) number i (omega arith) inside
has_bytes layout dependent packed start (Rights Wave) i number laid is inside at =
    stored_right_at (unpacked_song packed) number i (omega arith) inside
has_bytes layout dependent packed start (Lefts Pulse) i number laid is inside at =
    left_at (unpacked_song packed) Pulse number i (omega arith) inside
has_bytes layout dependent packed start (Rights Pulse) i number laid is inside at =
    right_at (unpacked_song packed) Pulse number i (omega arith) inside
has_bytes layout dependent packed start (Lefts Filter) i number laid is inside at =
    left_at (unpacked_song packed) Filter number i (omega arith) inside
has_bytes layout dependent packed start (Rights Filter) i number laid is inside at =
    right_at (unpacked_song packed) Filter number i (omega arith) inside
has_bytes layout dependent packed start (Lefts Speed) i number laid is inside at =
    let same : i ≡ number = omega arith in
    speed_side_at packed (λ row. row.left) i refl (omega arith)
    ∙ ap (λ (n : ℕ). (table_row (unpacked_song packed) Speed n).left) same
has_bytes layout dependent packed start (Rights Speed) i number laid is inside at =
    let same : i ≡ number = omega arith in
    speed_side_at packed (λ row. row.right) i refl (omega arith)
    ∙ ap (λ (n : ℕ). (table_row (unpacked_song packed) Speed n).right) same
has_bytes layout dependent packed start Periods i number laid is inside at =
    let same : i ≡ number = omega arith in
    speed_side_at packed (λ row. row.left % 128) i refl (omega arith)
    ∙ ap (λ (n : ℕ). (table_row (unpacked_song packed) Speed n).left % 128) same
has_bytes layout dependent packed start (Instruments field) i number laid is inside at =
    let same : i + 1 ≡ number = omega arith in
    instrument_byte_at packed field i is inside
    ∙ ap (λ (n : ℕ). instrument_byte field (instrument_at (unpacked_song packed) n)) same
has_bytes layout dependent packed start OneTimer i number laid is inside at =
    let first : i ≡ 0 = omega arith in
    let timer : ℕ = timer_of (instrument_at (unpacked_song packed) 1) in
    ap (λ (n : ℕ). get_or (one_timer_bytes packed) n 0) first
    ∙ ap (λ (z : Bool). get_or (if z then [] else timer ∷ []) 0 0) is
has_bytes layout dependent packed start OneWave i number laid is inside at =
    let first : i ≡ 0 = omega arith in
    let wave : ℕ = (instrument_at (unpacked_song packed) 1).first_wave in
    ap (λ (n : ℕ). get_or (one_wave_bytes packed) n 0) first
    ∙ ap (λ (z : Bool). get_or (if z then [] else wave ∷ []) 0 0) is
has_bytes layout dependent packed start GateFrom i number laid is inside at =
    let first : i ≡ 0 = omega arith in
    ap (λ (n : ℕ). get_or (gate_from_bytes packed) n 0) first
    ∙ ap (λ (z : Bool). get_or (if z then first_holder packed Gate ∷ [] else []) 0 0) is
has_bytes layout dependent packed start EnvelopeFrom i number laid is inside at =
    let first : i ≡ 0 = omega arith in
    ap (λ (n : ℕ). get_or (envelope_from_bytes packed) n 0) first
    ∙ ap (λ (z : Bool). get_or (if z then first_holder packed Envelope ∷ [] else []) 0 0) is
has_bytes layout dependent packed start OrderLows i number laid is inside at =
    let whole : layout.address (ORDERS + number) - 0 ≡ layout.address (ORDERS + number) = omega arith in
    ap (λ (z : Bool). get_or (lows start 0 (if z then order_places dependent packed else [])) i 0) is
    ∙ low_address_at start 0 (order_places dependent packed) i number (layout.address (ORDERS + number))
    (omega (arith, order_places_count dependent packed)) (omega arith)
    (order_at_label layout dependent packed start number laid (omega arith))
    ∙ ap (λ (a : ℕ). a % 256) whole
has_bytes layout dependent packed start OrderHighs i number laid is inside at =
    let whole : layout.address (ORDERS + number) - 0 ≡ layout.address (ORDERS + number) = omega arith in
    ap (λ (z : Bool). get_or (highs start 0 (if z then order_places dependent packed else [])) i 0) is
    ∙ high_address_at start 0 (order_places dependent packed) i number (layout.address (ORDERS + number))
    (omega (arith, order_places_count dependent packed)) (omega arith)
    (order_at_label layout dependent packed start number laid (omega arith))
    ∙ ap (λ (a : ℕ). a / 256) whole
has_bytes layout dependent packed start PatternLows i number laid is inside at =
    low_address_at start 1 (pattern_places dependent packed) i number (layout.address (PATTERNS + number))
    (omega (arith, places_count (patterns_place dependent packed) packed.patterns)) (omega arith)
    (pattern_at_label layout dependent packed start number laid (omega arith))
has_bytes layout dependent packed start PatternHighs i number laid is inside at =
    high_address_at start 1 (pattern_places dependent packed) i number (layout.address (PATTERNS + number))
    (omega (arith, places_count (patterns_place dependent packed) packed.patterns)) (omega arith)
    (pattern_at_label layout dependent packed start number laid (omega arith))
has_bytes layout dependent packed start (OrderBytes subtune channel) i number laid is inside at =
    let same : i ≡ number = omega arith in
    ap (λ (n : ℕ). get_or (order_bytes packed subtune channel) n 0) same
has_bytes layout dependent packed start (PatternBytes pattern) i number laid is inside at =
    let same : i ≡ number = omega arith in
    ap (λ (n : ℕ). get_or (pattern_bytes packed pattern) n 0) same
