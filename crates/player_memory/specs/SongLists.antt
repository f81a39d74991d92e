-- The lists of a packed song as the player reads them: what each of them has, under which label, and where their bytes
-- stand. This is the project's own player.
use Rattle.std.specs.Prelude.{◌≡◌, ℕ, ◌+◌, ◌-◌, ◌*◌, ◌/◌, ◌%◌, ◌<◌, ◌≤◌, ◌==◌}
use Rattle.std.specs.Prelude.{Bool, true, false, if◌then◌else◌, not, ◌&&◌, ◌||◌, nat_lt}
use Rattle.std.specs.Prelude.{List, [], length, slice_index, slice_index_or, sum_by}
use Rattle.std.specs.List.{range_with_len}
use Rattle.song_model.specs.declared.instruments.Instrument.{Instrument}
use Rattle.song_model.specs.declared.tables.TableRow.{TableRow}
use Rattle.song_model.specs.declared.tables.TableName.{TableName}
use Rattle.song_model.specs.declared.tables.TableName.TheVariants.{Wave, Pulse, Filter, Speed}
use Rattle.song_model.specs.LookUp.{table_of, table_row, instrument_at}
use Rattle.play_model.specs.Freq.{freq}
use Rattle.song_facts.specs.Facts.{timer_of}
use Rattle.song_facts.specs.declared.hold.Hold.TheVariants.{Envelope, Gate}
use Rattle.packed_form.specs.declared.packed_songs.PackedSubtune.{PackedSubtune}
use Rattle.packed_form.specs.declared.packed_songs.PackedSong.{PackedSong}
use Rattle.packed_form.specs.Unpacked.{unpacked_song}
use Rattle.packed_form.specs.Holders.{first_holder}
use Rattle.packed_form.specs.Sizes.{packed_song_size}
use Rattle.scopes.specs.Desk.{Layout}
use Rattle.player_memory.specs.declared.conditions.TheConstants.{NOTE_DEPENDENT}
use Rattle.player_memory.specs.declared.labels.TheConstants.{FREQUENCY_LOWS, FREQUENCY_HIGHS, SPEED_LEFTS, SPEED_RIGHTS}
use Rattle.player_memory.specs.declared.labels.TheConstants.{WAVE_LEFTS, WAVE_RIGHTS, PULSE_LEFTS, PULSE_RIGHTS}
use Rattle.player_memory.specs.declared.labels.TheConstants.{FILTER_LEFTS, FILTER_RIGHTS, SLIDES_LOW, SLIDES_HIGH}
use Rattle.player_memory.specs.declared.labels.TheConstants.{PERIODS, ADS, ORDERS_LOW, ORDERS_HIGH, PATTERNS_LOW}
use Rattle.player_memory.specs.declared.labels.TheConstants.{PATTERNS_HIGH, ORDERS, PATTERNS, ONE_TIMER, ONE_WAVE}
use Rattle.player_memory.specs.declared.labels.TheConstants.{GATE_FROM, ENVELOPE_FROM}
use Rattle.player_memory.specs.Forms.{stored}
use Rattle.player_memory.specs.Gaps.{gap_in}
use Rattle.player_memory.specs.Playing.{IsListed}

-- subtunes, channels and instruments' fields are counted from 0 here
pub data SongList : Type 0 where
  -- the frequencies of notes: their low bytes, their high bytes
  FrequencyLows : SongList
  FrequencyHighs : SongList
  -- the sides of a table's rows
  Lefts : (name : TableName) → SongList
  Rights : (name : TableName) → SongList
  -- the periods of vibratos, by rows of the speed table
  Periods : SongList
  -- one of the nine bytes of each instrument, where it is read
  Instruments : (field : ℕ) → SongList
  -- one byte for all of them: their gateoff timer, their first waveform
  OneTimer : SongList
  OneWave : SongList
  -- the number of the first of them that holds its gate before a note, and of the first that holds its envelope or more
  GateFrom : SongList
  EnvelopeFrom : SongList
  -- the addresses of orderlists, three for each subtune, and the places before patterns: low bytes, high bytes
  OrderLows : SongList
  OrderHighs : SongList
  PatternLows : SongList
  PatternHighs : SongList
  -- an orderlist, and a pattern
  OrderBytes : (subtune channel : ℕ) → SongList
  PatternBytes : (pattern : ℕ) → SongList

-- ---- what they have

-- the packed orderlist of a subtune and a channel
abbrev pub channel_bytes : ℕ → PackedSubtune → List ℕ
channel_bytes channel subtune =
    if channel == 0 then subtune.one else if channel == 1 then subtune.two else subtune.three

abbrev pub no_subtune : PackedSubtune
no_subtune = record { one = []; two = []; three = [] }

abbrev pub order_bytes : PackedSong → ℕ → ℕ → List ℕ
order_bytes packed subtune channel = channel_bytes channel (slice_index_or packed.subtunes subtune no_subtune)

abbrev pub pattern_bytes : PackedSong → ℕ → List ℕ
pattern_bytes packed pattern = slice_index_or packed.patterns pattern []

-- A field of an instrument is read where a line of the player may read it: its pulse program, its filter program, its
-- vibrato and the delay of that where the song has an instrument with such; its gateoff timer where two differ in its low
-- six bits, or the first holds more before its notes than another; its first waveform where two differ in that; and the
-- other three always.
abbrev pub is_read : PackedSong → ℕ → Bool
is_read packed field =
    if field == 3 then packed.facts.note_pulse
    else if field == 4 then packed.facts.note_filter
    else if field == 5 then packed.facts.note_vibrato
    else if field == 6 then packed.facts.vibrato_delay
    else if field == 7 then packed.facts.own_timer || packed.facts.first_holds
    else if field == 8 then packed.facts.own_wave
    else nat_lt field 9

-- a field of an instrument, in the order of a file; the vibrato's delay stands less one, 255 for none
abbrev pub instrument_byte : ℕ → Instrument → ℕ
instrument_byte field i =
    if field == 0 then i.ad
    else if field == 1 then i.sr
    else if field == 2 then i.wave
    else if field == 3 then i.pulse
    else if field == 4 then i.filter
    else if field == 5 then i.vibrato
    else if field == 6 then (i.vibrato_delay + 255) % 256
    else if field == 7 then i.gate_timer
    else i.first_wave

-- a row of a table, in the form in which it is stored: the wave table's has one of its own
abbrev pub row_stored : PackedSong → TableName → ℕ → TableRow
row_stored packed Wave number = stored (table_row (unpacked_song packed) Wave number)
row_stored packed name number = table_row (unpacked_song packed) name number

-- the byte with a number
abbrev pub list_byte : Layout → PackedSong → SongList → ℕ → ℕ
list_byte layout packed FrequencyLows number = freq number % 256
list_byte layout packed FrequencyHighs number = freq number / 256
list_byte layout packed (Lefts name) number = (row_stored packed name number).left
list_byte layout packed (Rights name) number = (row_stored packed name number).right
list_byte layout packed Periods number = (table_row (unpacked_song packed) Speed number).left % 128
list_byte layout packed (Instruments field) number =
    instrument_byte field (instrument_at (unpacked_song packed) number)
list_byte layout packed OneTimer number = timer_of (instrument_at (unpacked_song packed) 1)
list_byte layout packed OneWave number = (instrument_at (unpacked_song packed) 1).first_wave
list_byte layout packed GateFrom number = first_holder packed Gate
list_byte layout packed EnvelopeFrom number = first_holder packed Envelope
list_byte layout packed OrderLows number = layout.address (ORDERS + number) % 256
list_byte layout packed OrderHighs number = layout.address (ORDERS + number) / 256
list_byte layout packed PatternLows number = (layout.address (PATTERNS + number) - 1) % 256
list_byte layout packed PatternHighs number = (layout.address (PATTERNS + number) - 1) / 256
list_byte layout packed (OrderBytes subtune channel) number = slice_index (order_bytes packed subtune channel) number
list_byte layout packed (PatternBytes pattern) number = slice_index (pattern_bytes packed pattern) number

-- ---- which numbers they have

-- the bytes of a field of all instruments that stand nowhere, since it isn't read; and those of all nine
abbrev pub unread : PackedSong → ℕ → ℕ
unread packed field = if is_read packed field then 0 else length packed.instruments

abbrev pub unread_size : PackedSong → ℕ
unread_size packed = sum_by (unread packed) (range_with_len 0 9)

-- the addresses of the orderlists, which stand nowhere where there is one subtune alone: its voices begin with them
abbrev pub unlisted_size : PackedSong → ℕ
unlisted_size packed = if packed.facts.subtunes then 0 else 6 * length packed.subtunes

-- whether the numbers stand from which on instruments hold the gate and the envelope: where the song has such ones, and
-- its instruments stand in the order of what they hold
abbrev pub has_gate_from : PackedSong → Bool
has_gate_from packed = packed.facts.legato && not packed.facts.first_holds

abbrev pub has_envelope_from : PackedSong → Bool
has_envelope_from packed = packed.facts.no_hard_restart && not packed.facts.first_holds

-- those that stand alone for all instruments
abbrev pub shared_size : PackedSong → ℕ
shared_size packed =
    (if packed.facts.own_timer then 0 else 1) + (if packed.facts.own_wave then 0 else 1)
    + (if has_gate_from packed then 1 else 0) + (if has_envelope_from packed then 1 else 0)

-- what stands of the packed song
abbrev pub bytes_read : PackedSong → ℕ
bytes_read packed = packed_song_size packed + shared_size packed - (unread_size packed + unlisted_size packed)

-- two zeros and that stand in front of the frequencies, and as many zeros as there is a gap
abbrev pub bytes_in_front : PackedSong → ℕ
bytes_in_front packed = 2 + bytes_read packed

abbrev pub gap_size : PackedSong → ℕ
gap_size packed = gap_in packed.numbers (bytes_in_front packed)

-- the first number, and how many there are: of the frequencies those that the song asks for, and of the speed table row
-- 0, too, which is a zero row
abbrev pub first_number : PackedSong → SongList → ℕ
first_number packed FrequencyLows = packed.numbers.first
first_number packed FrequencyHighs = packed.numbers.first
first_number packed (Lefts Wave) = 1
first_number packed (Lefts Pulse) = 1
first_number packed (Lefts Filter) = 1
first_number packed (Rights Wave) = 1
first_number packed (Rights Pulse) = 1
first_number packed (Rights Filter) = 1
first_number packed (Instruments field) = 1
first_number packed list = 0

abbrev pub rows_listed : PackedSong → TableName → ℕ
rows_listed packed Speed = length packed.speed + 1
rows_listed packed name = length (table_of (unpacked_song packed) name)

abbrev pub list_length : PackedSong → SongList → ℕ
list_length packed FrequencyLows = packed.numbers.count
list_length packed FrequencyHighs = packed.numbers.count
list_length packed (Lefts name) = rows_listed packed name
list_length packed (Rights name) = rows_listed packed name
list_length packed Periods = rows_listed packed Speed
list_length packed (Instruments field) = length packed.instruments
list_length packed OneTimer = 1
list_length packed OneWave = 1
list_length packed GateFrom = 1
list_length packed EnvelopeFrom = 1
list_length packed OrderLows = 3 * length packed.subtunes
list_length packed OrderHighs = 3 * length packed.subtunes
list_length packed PatternLows = length packed.patterns
list_length packed PatternHighs = length packed.patterns
list_length packed (OrderBytes subtune channel) = length (order_bytes packed subtune channel)
list_length packed (PatternBytes pattern) = length (pattern_bytes packed pattern)

-- a number of a list
pub record HasNumber (packed : PackedSong) (list : SongList) (number : ℕ) : Type 0 where
  pub from : first_number packed list ≤ number
  pub to : number < first_number packed list + list_length packed list

-- there is a list of each field of instruments that is read, a timer and a first waveform for all instruments where no
-- two differ in theirs, the numbers from which on they hold the gate and the envelope, the addresses of orderlists
-- where there are several subtunes, and three orderlists of each; periods are a list of their own where the code for
-- calculated speeds is kept
abbrev pub IsSongList : Layout → PackedSong → SongList → Type 0
IsSongList layout packed Periods = layout.holds NOTE_DEPENDENT ≡ true
IsSongList layout packed (Instruments field) = is_read packed field ≡ true
IsSongList layout packed OneTimer = packed.facts.own_timer ≡ false
IsSongList layout packed OneWave = packed.facts.own_wave ≡ false
IsSongList layout packed GateFrom = has_gate_from packed ≡ true
IsSongList layout packed EnvelopeFrom = has_envelope_from packed ≡ true
IsSongList layout packed OrderLows = packed.facts.subtunes ≡ true
IsSongList layout packed OrderHighs = packed.facts.subtunes ≡ true
IsSongList layout packed (OrderBytes subtune channel) = (subtune < length packed.subtunes) × (channel < 3)
IsSongList layout packed (PatternBytes pattern) = pattern < length packed.patterns
IsSongList layout packed list = Unit {0}

-- ---- where they stand

-- the label of the byte with number 0, which isn't the list's where its first number is another
abbrev pub list_label : SongList → ℕ
list_label FrequencyLows = FREQUENCY_LOWS
list_label FrequencyHighs = FREQUENCY_HIGHS
list_label (Lefts Wave) = WAVE_LEFTS
list_label (Lefts Pulse) = PULSE_LEFTS
list_label (Lefts Filter) = FILTER_LEFTS
list_label (Lefts Speed) = SPEED_LEFTS
list_label (Rights Wave) = WAVE_RIGHTS
list_label (Rights Pulse) = PULSE_RIGHTS
list_label (Rights Filter) = FILTER_RIGHTS
list_label (Rights Speed) = SPEED_RIGHTS
list_label Periods = PERIODS
list_label (Instruments field) = ADS + field
list_label OneTimer = ONE_TIMER
list_label OneWave = ONE_WAVE
list_label GateFrom = GATE_FROM
list_label EnvelopeFrom = ENVELOPE_FROM
list_label OrderLows = ORDERS_LOW
list_label OrderHighs = ORDERS_HIGH
list_label PatternLows = PATTERNS_LOW
list_label PatternHighs = PATTERNS_HIGH
list_label (OrderBytes subtune channel) = ORDERS + (3 * subtune + channel)
list_label (PatternBytes pattern) = PATTERNS + pattern

-- the slides have a byte for each row of the speed table, and row 0
abbrev pub slide_rows : PackedSong → ℕ
slide_rows packed = length packed.speed + 1

-- each byte of a list stands in memory, where the code may read it and leaves it
abbrev pub ListsStand : Layout → PackedSong → (ℕ → ℕ) → Type 0
ListsStand layout packed at =
    (list : SongList) (number : ℕ) → IsSongList layout packed list → HasNumber packed list number →
    IsListed layout (slide_rows packed) at (list_label list) number (list_byte layout packed list number)

-- Slides have the sides of a row of the speed table: the right one as low byte, the left one as high byte. Where the
-- code for calculated speeds is kept they are bytes of their own, and those of a row with a left side from $80 on are
-- free; else they are the lists of the sides, and so are the periods.
pub record SlidesStand (layout : Layout) (packed : PackedSong) (at : ℕ → ℕ) : Type 0 where
  pub low : layout.holds NOTE_DEPENDENT ≡ true → (number : ℕ) → number < slide_rows packed →
      (table_row (unpacked_song packed) Speed number).left < 128 →
      at (layout.address SLIDES_LOW + number) ≡ (table_row (unpacked_song packed) Speed number).right
  pub high : layout.holds NOTE_DEPENDENT ≡ true → (number : ℕ) → number < slide_rows packed →
      (table_row (unpacked_song packed) Speed number).left < 128 →
      at (layout.address SLIDES_HIGH + number) ≡ (table_row (unpacked_song packed) Speed number).left
  pub low_is : layout.holds NOTE_DEPENDENT ≡ false → layout.address SLIDES_LOW ≡ layout.address SPEED_RIGHTS
  pub high_is : layout.holds NOTE_DEPENDENT ≡ false → layout.address SLIDES_HIGH ≡ layout.address SPEED_LEFTS
  pub periods : layout.holds NOTE_DEPENDENT ≡ false → layout.address PERIODS ≡ layout.address SPEED_LEFTS

-- both
pub record HasSongLists (layout : Layout) (packed : PackedSong) (at : ℕ → ℕ) : Type 0 where
  pub lists : ListsStand layout packed at
  pub slides : SlidesStand layout packed at
