-- The bytes behind the player's code, and the labels in them: the lists of a packed song, one behind the other, and
-- behind them the frequencies of the numbers that it asks for. Where the player keeps calculated speeds (`dependent`),
-- there are three lists more. This is the project's own player.
use Rattle.std.specs.Prelude.{◌≡◌, ℕ, ◌+◌, ◌-◌, ◌*◌, ◌/◌, ◌%◌, ◌<◌, Bool, List, []}
use Rattle.std.specs.Prelude.{if◌then◌else◌, ◌∷◌, ◌++◌}
use Rattle.std.specs.Prelude.{length, map, max, replicate, sum_by, Contains, IsPermutation, slice_index}
use Rattle.std.specs.List.{concat, flat_map, range_with_len}
use Rattle.std.specs.List.Sorted.{IsNonDecreasingBy}
use Rattle.song_model.specs.declared.tables.TableRow.{TableRow}
use Rattle.song_model.specs.declared.tables.TableName.TheVariants.{Wave, Pulse, Filter, Speed}
use Rattle.song_model.specs.LookUp.{instrument_at}
use Rattle.play_model.specs.Freq.{freq}
use Rattle.song_facts.specs.Facts.{timer_of}
use Rattle.song_facts.specs.declared.hold.Hold.TheVariants.{Envelope, Gate}
use Rattle.packed_form.specs.declared.packed_songs.PackedSubtune.{PackedSubtune}
use Rattle.packed_form.specs.declared.packed_songs.PackedSong.{PackedSong}
use Rattle.packed_form.specs.Unpacked.{unpacked_instrument, unpacked_song}
use Rattle.packed_form.specs.Holders.{first_holder}
use Rattle.asm6502.specs.declared.lines.Line.{Line}
use Rattle.scopes.specs.Desk.{Layout}
use Rattle.player_memory.specs.declared.labels.TheConstants.{NEXT_FREQUENCY_LOWS, NEXT_FREQUENCY_HIGHS}
use Rattle.player_memory.specs.declared.labels.TheConstants.{NEXT_WAVE_LEFTS, NEXT_WAVE_RIGHTS, NEXT_PULSE_LEFTS}
use Rattle.player_memory.specs.declared.labels.TheConstants.{NEXT_FILTER_LEFTS, SLIDES_LOW, SLIDES_HIGH}
use Rattle.player_memory.specs.declared.labels.TheConstants.{ORDERS, PATTERNS}
use Rattle.player_memory.specs.Forms.{stored}
use Rattle.player_memory.specs.SongLists.{SongList, FrequencyLows, FrequencyHighs, Lefts, Rights, Periods, Instruments}
use Rattle.player_memory.specs.SongLists.{OneTimer, OneWave, GateFrom, EnvelopeFrom, OrderLows, OrderHighs}
use Rattle.player_memory.specs.SongLists.{PatternLows, PatternHighs, OrderBytes, PatternBytes}
use Rattle.player_memory.specs.SongLists.{has_gate_from, has_envelope_from}
use Rattle.player_memory.specs.SongLists.{is_read, shared_size, gap_size, slide_rows, instrument_byte, list_label}
use Rattle.song_lists.specs.declared.marks.Mark.{Mark}
use Rattle.song_lists.specs.Marks.{mark_at, marked}

-- ---- lists of bytes

-- zeros that fill the gap in front of the frequencies
abbrev pub gap_bytes : PackedSong → List ℕ
gap_bytes packed = replicate (gap_size packed) 0

-- the low bytes and the high bytes of the frequencies of the numbers that the song asks for
unfoldable pub frequency_lows : PackedSong → List ℕ
frequency_lows packed =
    map (λ n. freq n % 256) (range_with_len packed.numbers.first packed.numbers.count)

unfoldable pub frequency_highs : PackedSong → List ℕ
frequency_highs packed =
    map (λ n. freq n / 256) (range_with_len packed.numbers.first packed.numbers.count)

-- the sides of a table's rows; the rows of the wave table are stored in a form of their own
abbrev pub lefts : List TableRow → List ℕ
lefts rows = map (λ row. row.left) rows

abbrev pub rights : List TableRow → List ℕ
rights rows = map (λ row. row.right) rows

abbrev pub stored_rows : List TableRow → List TableRow
stored_rows rows = map stored rows

-- the periods of vibratos: left sides without bit 7
abbrev pub periods : List TableRow → List ℕ
periods rows = map (λ row. row.left % 128) rows

-- a list that is there where calculated speeds are kept, with a 0 for row 0 in front
abbrev pub kept_list : Bool → List ℕ → List ℕ
kept_list dependent side = if dependent then 0 ∷ side else []

-- how many bytes such a list has
abbrev pub kept_rows : Bool → PackedSong → ℕ
kept_rows dependent packed = if dependent then slide_rows packed else 0

-- the byte with this number of each instrument, as the player reads it where it does
abbrev pub field_bytes : PackedSong → ℕ → List ℕ
field_bytes packed field =
    map (λ instrument. instrument_byte field (unpacked_instrument instrument)) packed.instruments

abbrev pub instrument_bytes : PackedSong → ℕ → List ℕ
instrument_bytes packed field = if is_read packed field then field_bytes packed field else []

-- how many bytes the list of a field has, and those of the fields before it
abbrev pub field_size : PackedSong → ℕ → ℕ
field_size packed field = if is_read packed field then length packed.instruments else 0

unfoldable pub fields_before : PackedSong → ℕ → ℕ
fields_before packed field = sum_by (field_size packed) (range_with_len 0 field)

-- the bytes that stand alone for all instruments, where no two differ in them: the gateoff timer of the first one, and
-- its first waveform
abbrev pub one_timer_bytes : PackedSong → List ℕ
one_timer_bytes packed =
    if packed.facts.own_timer then [] else timer_of (instrument_at (unpacked_song packed) 1) ∷ []

abbrev pub one_wave_bytes : PackedSong → List ℕ
one_wave_bytes packed =
    if packed.facts.own_wave then [] else (instrument_at (unpacked_song packed) 1).first_wave ∷ []

-- and those that tell from which number on instruments hold the gate and the envelope before a note
abbrev pub gate_from_bytes : PackedSong → List ℕ
gate_from_bytes packed = if has_gate_from packed then first_holder packed Gate ∷ [] else []

abbrev pub envelope_from_bytes : PackedSong → List ℕ
envelope_from_bytes packed = if has_envelope_from packed then first_holder packed Envelope ∷ [] else []

-- how many each of the first three has
abbrev pub one_timer_size : PackedSong → ℕ
one_timer_size packed = if packed.facts.own_timer then 0 else 1

abbrev pub one_wave_size : PackedSong → ℕ
one_wave_size packed = if packed.facts.own_wave then 0 else 1

abbrev pub gate_from_size : PackedSong → ℕ
gate_from_size packed = if has_gate_from packed then 1 else 0

-- how many addresses of orderlists stand in lists: none where there is one subtune alone
abbrev pub listed_orders : PackedSong → ℕ
listed_orders packed = if packed.facts.subtunes then 3 * length packed.subtunes else 0

-- the orderlists, three of each subtune
abbrev pub orders_of : PackedSubtune → List (List ℕ)
orders_of subtune = subtune.one ∷ subtune.two ∷ subtune.three ∷ []

abbrev pub all_orders : PackedSong → List (List ℕ)
all_orders packed = flat_map orders_of packed.subtunes

-- the low bytes and the high bytes of the addresses of places, counted from the first byte on, each less so many bytes
abbrev pub lows : ℕ → ℕ → List ℕ → List ℕ
lows start back places = map (λ place. (start + place - back) % 256) places

abbrev pub highs : ℕ → ℕ → List ℕ → List ℕ
highs start back places = map (λ place. (start + place - back) / 256) places

-- ---- places, counted from the first byte on

-- the sides of the speed table stand first, the right one before the left one, each with a 0 for row 0
abbrev pub speed_rights_place : PackedSong → ℕ
speed_rights_place packed = 0

abbrev pub speed_lefts_place : PackedSong → ℕ
speed_lefts_place packed = 1 + length packed.speed

-- The lists for calculated speeds stand behind the speed table where they are there. Where they aren't, their
-- labels are those of its sides.
abbrev pub slides_low_place : Bool → PackedSong → ℕ
slides_low_place dependent packed = if dependent then 2 + 2 * length packed.speed else speed_rights_place packed

abbrev pub slides_high_place : Bool → PackedSong → ℕ
slides_high_place dependent packed =
    if dependent then 2 + 2 * length packed.speed + slide_rows packed else speed_lefts_place packed

abbrev pub periods_place : Bool → PackedSong → ℕ
periods_place dependent packed =
    if dependent then 2 + 2 * length packed.speed + 2 * slide_rows packed else speed_lefts_place packed

-- the sides of the wave, the pulse and the filter table stand behind these, the left ones before the right ones; their
-- labels name the byte before
abbrev pub wave_place : Bool → PackedSong → ℕ
wave_place dependent packed = 1 + 2 * length packed.speed + 3 * kept_rows dependent packed

abbrev pub pulse_place : Bool → PackedSong → ℕ
pulse_place dependent packed = wave_place dependent packed + 2 * length packed.wave

abbrev pub filter_place : Bool → PackedSong → ℕ
filter_place dependent packed = pulse_place dependent packed + 2 * length packed.pulse

-- so do those of the nine lists over the instruments, of which some may have no bytes
abbrev pub instruments_place : Bool → PackedSong → ℕ
instruments_place dependent packed = filter_place dependent packed + 2 * length packed.filter

-- what stands alone for all instruments is behind these; its labels name its bytes, or where they would be
abbrev pub one_timer_place : Bool → PackedSong → ℕ
one_timer_place dependent packed = instruments_place dependent packed + fields_before packed 9 + 1

abbrev pub one_wave_place : Bool → PackedSong → ℕ
one_wave_place dependent packed = one_timer_place dependent packed + one_timer_size packed

abbrev pub gate_from_place : Bool → PackedSong → ℕ
gate_from_place dependent packed = one_wave_place dependent packed + one_wave_size packed

abbrev pub envelope_from_place : Bool → PackedSong → ℕ
envelope_from_place dependent packed = gate_from_place dependent packed + gate_from_size packed

-- the addresses of the orderlists, where they are listed, and of the patterns stand behind that, and then they
-- themselves
abbrev pub addresses_place : Bool → PackedSong → ℕ
addresses_place dependent packed = one_timer_place dependent packed + shared_size packed

abbrev pub orders_place : Bool → PackedSong → ℕ
orders_place dependent packed =
    addresses_place dependent packed + 2 * listed_orders packed + 2 * length packed.patterns

abbrev pub patterns_place : Bool → PackedSong → ℕ
patterns_place dependent packed = orders_place dependent packed + length (concat (all_orders packed))

-- The frequencies stand behind the patterns, and behind zeros that fill a gap. Their labels name the byte that number 0
-- would have, as many bytes in front of the first one as there are numbers below it; and where there is none, some byte
-- in front of them.
abbrev pub frequencies_place : Bool → PackedSong → ℕ
frequencies_place dependent packed =
    patterns_place dependent packed + length (concat packed.patterns) + gap_size packed

abbrev pub bytes_back : PackedSong → ℕ
bytes_back packed = max packed.numbers.first (1 - packed.numbers.count)

-- where lists stand, one behind the other
abbrev pub places_from : ℕ → List (List ℕ) → List ℕ
places_from place [] = []
places_from place (bytes ∷ rest) = place ∷ places_from (place + length bytes) rest

abbrev pub order_places : Bool → PackedSong → List ℕ
order_places dependent packed = places_from (orders_place dependent packed) (all_orders packed)

abbrev pub pattern_places : Bool → PackedSong → List ℕ
pattern_places dependent packed = places_from (patterns_place dependent packed) packed.patterns

-- those of the orderlists whose addresses stand in lists
abbrev pub listed_places : Bool → PackedSong → List ℕ
listed_places dependent packed = if packed.facts.subtunes then order_places dependent packed else []

-- the addresses of the first subtune's orderlists, where the first byte is to stand at `start`
abbrev pub AreFirstOrders : Bool → PackedSong → ℕ → List ℕ → Type 0
AreFirstOrders dependent packed start orders =
    (voice : ℕ) → voice < 3 → slice_index orders voice ≡ start + slice_index (order_places dependent packed) voice

-- ---- the bytes, where the first one is to stand at `start`

-- the sides of the speed table from row 0 on
abbrev pub speed_lists : PackedSong → List (List ℕ)
speed_lists packed = (0 ∷ rights packed.speed) ∷ (0 ∷ lefts packed.speed) ∷ []

-- the slides begin as the sides of the speed table
abbrev pub kept_lists : Bool → PackedSong → List (List ℕ)
kept_lists dependent packed =
    kept_list dependent (rights packed.speed) ∷ kept_list dependent (lefts packed.speed)
    ∷ kept_list dependent (periods packed.speed) ∷ []

abbrev pub table_lists : PackedSong → List (List ℕ)
table_lists packed =
    lefts (stored_rows packed.wave) ∷ rights (stored_rows packed.wave) ∷ lefts packed.pulse ∷ rights packed.pulse
    ∷ lefts packed.filter ∷ rights packed.filter ∷ []

abbrev pub instrument_lists : PackedSong → List (List ℕ)
instrument_lists packed = map (instrument_bytes packed) (range_with_len 0 9)

abbrev pub shared_lists : PackedSong → List (List ℕ)
shared_lists packed =
    one_timer_bytes packed ∷ one_wave_bytes packed ∷ gate_from_bytes packed ∷ envelope_from_bytes packed ∷ []

-- the addresses of the orderlists where there are several subtunes, and the places before the patterns
abbrev pub address_lists : Bool → PackedSong → ℕ → List (List ℕ)
address_lists dependent packed start =
    lows start 0 (listed_places dependent packed) ∷ highs start 0 (listed_places dependent packed)
    ∷ lows start 1 (pattern_places dependent packed) ∷ highs start 1 (pattern_places dependent packed) ∷ []

abbrev pub frequency_lists : PackedSong → List (List ℕ)
frequency_lists packed = gap_bytes packed ∷ frequency_lows packed ∷ frequency_highs packed ∷ []

abbrev pub data_bytes : Bool → PackedSong → ℕ → List ℕ
data_bytes dependent packed start = concat
    (speed_lists packed ++ (kept_lists dependent packed ++ (table_lists packed ++ (instrument_lists packed
    ++ (shared_lists packed ++ (address_lists dependent packed start ++ (all_orders packed
    ++ (packed.patterns ++ frequency_lists packed))))))))

-- ---- the labels

-- where a list's label is: in front of the byte with number 0
abbrev pub label_place : Bool → PackedSong → SongList → ℕ
label_place dependent packed FrequencyLows = frequencies_place dependent packed - bytes_back packed
label_place dependent packed (Rights Speed) = speed_rights_place packed
label_place dependent packed FrequencyHighs =
    frequencies_place dependent packed + packed.numbers.count - bytes_back packed
label_place dependent packed (Lefts Speed) = speed_lefts_place packed
label_place dependent packed Periods = periods_place dependent packed
label_place dependent packed (Lefts Wave) = wave_place dependent packed
label_place dependent packed (Rights Wave) = wave_place dependent packed + length packed.wave
label_place dependent packed (Lefts Pulse) = pulse_place dependent packed
label_place dependent packed (Rights Pulse) = pulse_place dependent packed + length packed.pulse
label_place dependent packed (Lefts Filter) = filter_place dependent packed
label_place dependent packed (Rights Filter) = filter_place dependent packed + length packed.filter
label_place dependent packed (Instruments field) =
    instruments_place dependent packed + fields_before packed field
label_place dependent packed OneTimer = one_timer_place dependent packed
label_place dependent packed OneWave = one_wave_place dependent packed
label_place dependent packed GateFrom = gate_from_place dependent packed
label_place dependent packed EnvelopeFrom = envelope_from_place dependent packed
label_place dependent packed OrderLows = addresses_place dependent packed
label_place dependent packed OrderHighs = addresses_place dependent packed + listed_orders packed
label_place dependent packed PatternLows = addresses_place dependent packed + 2 * listed_orders packed
label_place dependent packed PatternHighs =
    addresses_place dependent packed + 2 * listed_orders packed + length packed.patterns
label_place dependent packed (OrderBytes subtune channel) =
    slice_index (order_places dependent packed) (3 * subtune + channel)
label_place dependent packed (PatternBytes pattern) = slice_index (pattern_places dependent packed) pattern

-- the label of a list, and a label that names the byte behind it
abbrev pub own_mark : Bool → PackedSong → SongList → Mark
own_mark dependent packed list = mark_at (list_label list) (label_place dependent packed list)

abbrev pub next_mark : Bool → PackedSong → ℕ → SongList → Mark
next_mark dependent packed next list = mark_at next (label_place dependent packed list + 1)

-- labels one after the other, at these places
abbrev pub marks_from : ℕ → List ℕ → List Mark
marks_from label [] = []
marks_from label (place ∷ places) = mark_at label place ∷ marks_from (label + 1) places

-- the labels that each song's lists have, by their numbers
abbrev pub frequency_marks : Bool → PackedSong → List Mark
frequency_marks dependent packed =
    own_mark dependent packed FrequencyLows ∷ next_mark dependent packed NEXT_FREQUENCY_LOWS FrequencyLows
    ∷ own_mark dependent packed FrequencyHighs ∷ next_mark dependent packed NEXT_FREQUENCY_HIGHS FrequencyHighs ∷ []

abbrev pub speed_marks : Bool → PackedSong → List Mark
speed_marks dependent packed =
    own_mark dependent packed (Rights Speed) ∷ own_mark dependent packed (Lefts Speed)
    ∷ own_mark dependent packed Periods ∷ []

abbrev pub wave_marks : Bool → PackedSong → List Mark
wave_marks dependent packed =
    own_mark dependent packed (Lefts Wave) ∷ next_mark dependent packed NEXT_WAVE_LEFTS (Lefts Wave)
    ∷ own_mark dependent packed (Rights Wave) ∷ next_mark dependent packed NEXT_WAVE_RIGHTS (Rights Wave) ∷ []

abbrev pub pulse_marks : Bool → PackedSong → List Mark
pulse_marks dependent packed =
    own_mark dependent packed (Lefts Pulse) ∷ next_mark dependent packed NEXT_PULSE_LEFTS (Lefts Pulse)
    ∷ own_mark dependent packed (Rights Pulse) ∷ []

abbrev pub filter_marks : Bool → PackedSong → List Mark
filter_marks dependent packed =
    own_mark dependent packed (Lefts Filter) ∷ next_mark dependent packed NEXT_FILTER_LEFTS (Lefts Filter)
    ∷ own_mark dependent packed (Rights Filter) ∷ []

abbrev pub instrument_marks : Bool → PackedSong → List Mark
instrument_marks dependent packed =
    map (λ field. own_mark dependent packed (Instruments field)) (range_with_len 0 9)

abbrev pub address_marks : Bool → PackedSong → List Mark
address_marks dependent packed =
    own_mark dependent packed OrderLows ∷ own_mark dependent packed OrderHighs
    ∷ own_mark dependent packed PatternLows ∷ own_mark dependent packed PatternHighs ∷ []

abbrev pub shared_marks : Bool → PackedSong → List Mark
shared_marks dependent packed = own_mark dependent packed OneTimer ∷ own_mark dependent packed OneWave ∷ []

abbrev pub slide_marks : Bool → PackedSong → List Mark
slide_marks dependent packed =
    mark_at SLIDES_LOW (slides_low_place dependent packed)
    ∷ mark_at SLIDES_HIGH (slides_high_place dependent packed) ∷ []

abbrev pub holder_marks : Bool → PackedSong → List Mark
holder_marks dependent packed =
    own_mark dependent packed GateFrom ∷ own_mark dependent packed EnvelopeFrom ∷ []

abbrev pub list_marks : Bool → PackedSong → List Mark
list_marks dependent packed =
    frequency_marks dependent packed ++ (speed_marks dependent packed ++ (wave_marks dependent packed
    ++ (pulse_marks dependent packed ++ (filter_marks dependent packed ++ (instrument_marks dependent packed
    ++ (address_marks dependent packed ++ (shared_marks dependent packed ++ (slide_marks dependent packed
    ++ holder_marks dependent packed))))))))

-- and with those of its orderlists and patterns
abbrev pub data_marks : Bool → PackedSong → List Mark
data_marks dependent packed =
    list_marks dependent packed
    ++ (marks_from ORDERS (order_places dependent packed) ++ marks_from PATTERNS (pattern_places dependent packed))

-- ---- the lines, and where they stand

-- the bytes with their labels in front of them, by their places: in any order where they are in one place
pub record HasLines (dependent : Bool) (packed : PackedSong) (start : ℕ) (lines : List Line) : Type 0 where
  pub marks : List Mark
  pub same : IsPermutation (data_marks dependent packed) marks
  pub rise : IsNonDecreasingBy (λ mark. mark.place) marks
  pub are : lines ≡ marked 0 marks (data_bytes dependent packed start)

-- each of the labels has the address of its byte
pub record IsDataLayout (layout : Layout) (dependent : Bool) (packed : PackedSong) (start : ℕ) : Type 0 where
  pub stands :
      (mark : Mark) → Contains (data_marks dependent packed) mark → layout.address mark.label ≡ start + mark.place
