-- The listing of a small song's lists, worked out by hand, without calculated speeds and with them; and such as aren't.
use Rattle.std.specs.Prelude.{◌≡◌, ℕ, ◌+◌, List, [], ◌∷◌, drop, map, true, false}
use Rattle.std.specs.List.{range_with_len}
use Rattle.asked_numbers.specs.declared.range.NumberRange.{NumberRange}
use Rattle.packed_form.specs.declared.packed_songs.PackedSubtune.{PackedSubtune}
use Rattle.packed_form.specs.declared.packed_songs.PackedInstrument.{PackedInstrument}
use Rattle.packed_form.specs.declared.packed_songs.PackedSong.{PackedSong}
use Rattle.song_facts.specs.declared.facts.Facts.{Facts}
use Rattle.song_facts.specs.Facts.{no_facts}
use Rattle.song_model.specs.declared.tables.TableRow.{TableRow}
use Rattle.asm6502.specs.declared.lines.Line.{Line}
use Rattle.player_memory.specs.declared.labels.TheConstants.{FREQUENCY_LOWS, NEXT_FREQUENCY_LOWS, FREQUENCY_HIGHS}
use Rattle.player_memory.specs.declared.labels.TheConstants.{NEXT_FREQUENCY_HIGHS, SPEED_RIGHTS, SPEED_LEFTS, PERIODS}
use Rattle.player_memory.specs.declared.labels.TheConstants.{SLIDES_LOW, SLIDES_HIGH, WAVE_LEFTS, NEXT_WAVE_LEFTS}
use Rattle.player_memory.specs.declared.labels.TheConstants.{WAVE_RIGHTS, NEXT_WAVE_RIGHTS, PULSE_LEFTS}
use Rattle.player_memory.specs.declared.labels.TheConstants.{NEXT_PULSE_LEFTS, PULSE_RIGHTS, FILTER_LEFTS}
use Rattle.player_memory.specs.declared.labels.TheConstants.{NEXT_FILTER_LEFTS, FILTER_RIGHTS, ADS, SRS, WAVES, PULSES}
use Rattle.player_memory.specs.declared.labels.TheConstants.{FILTERS, VIBRATOS, DELAYS, GATE_TIMERS, FIRST_WAVES}
use Rattle.player_memory.specs.declared.labels.TheConstants.{ORDERS_LOW, ORDERS_HIGH, PATTERNS_LOW, PATTERNS_HIGH}
use Rattle.player_memory.specs.declared.labels.TheConstants.{ONE_TIMER, ONE_WAVE, GATE_FROM, ENVELOPE_FROM, ORDERS}
use Rattle.player_memory.specs.declared.labels.TheConstants.{PATTERNS}
use Rattle.player_memory.specs.SongLists.{FrequencyLows, FrequencyHighs, Instruments, OneTimer, OneWave, GateFrom}
use Rattle.player_memory.specs.SongLists.{EnvelopeFrom, OrderLows, OrderHighs, PatternLows, PatternHighs, OrderBytes}
use Rattle.player_memory.specs.SongLists.{gap_size}
use Rattle.song_lists.specs.Marks.{label_line, bytes_line}
use Rattle.song_lists.specs.DataLists.{gap_bytes, frequency_lows, frequency_highs, shared_lists, label_place}
use Rattle.song_lists.specs.DataLists.{data_bytes, instrument_bytes, gate_from_bytes, envelope_from_bytes}
use Rattle.song_lists.specs.DataLists.{AreFirstOrders, HasLines}
use Rattle.song_lists.specs.ListLaws.{lists_size}

-- ---- a small song

-- a pattern of one rest, which one channel plays plainly, the next two half tones up, the third twice
abbrev pub small_subtune : PackedSubtune
small_subtune = record {
  one = 0x00 ∷ 0xFF ∷ 0x00 ∷ [];
  two = 0xF2 ∷ 0x00 ∷ 0xFF ∷ 0x01 ∷ [];
  three = 0xD1 ∷ 0x00 ∷ 0xFF ∷ 0x00 ∷ [];
}

-- two instruments with one gateoff timer, of which the second holds the envelope where the gate goes off, and has a
-- vibrato after five frames
abbrev pub plain_instrument : PackedInstrument
plain_instrument = record { bytes = 0x09 ∷ 0xA0 ∷ 0x01 ∷ 0x00 ∷ 0x00 ∷ 0x00 ∷ 0x00 ∷ 0x02 ∷ 0x41 ∷ [] }

abbrev pub vibrato_instrument : PackedInstrument
vibrato_instrument = record { bytes = 0x0A ∷ 0x90 ∷ 0x02 ∷ 0x00 ∷ 0x00 ∷ 0x01 ∷ 0x05 ∷ 0x82 ∷ 0x11 ∷ [] }

abbrev pub row : ℕ → ℕ → TableRow
row left right = record { left = left; right = right }

-- each field of its instruments but the gateoff timer is read; or of those that need a fact the vibrato's delay alone;
-- or the gateoff timer; and the addresses of its orderlists are listed, as where there are several subtunes, or they
-- aren't
abbrev pub all_read : Facts
all_read = record no_facts {
  no_hard_restart = true;
  note_vibrato = true;
  vibrato_delay = true;
  note_pulse = true;
  note_filter = true;
  own_wave = true;
  subtunes = true;
}

abbrev pub delay_read : Facts
delay_read = record no_facts { vibrato_delay = true; subtunes = true }

abbrev pub timer_read : Facts
timer_read = record no_facts { own_timer = true; subtunes = true }

abbrev pub one_alone : Facts
one_alone = record all_read { subtunes = false }

-- a wave program of a delay, a silent waveform, a command and a jump; a row of the pulse table; none of the filter
-- table; a speed that is calculated from notes; with these facts; and it asks for these numbers
pub record IsSmallSongWith (marked : Facts) (range : NumberRange) (packed : PackedSong) : Type 0 where
  pub subtunes : packed.subtunes ≡ small_subtune ∷ []
  pub patterns : packed.patterns ≡ (0xC0 ∷ 0x00 ∷ []) ∷ []
  pub instruments : packed.instruments ≡ plain_instrument ∷ vibrato_instrument ∷ []
  pub wave : packed.wave ≡ row 0x02 0x00 ∷ row 0xE1 0x8C ∷ row 0xF1 0x03 ∷ row 0xFF 0x02 ∷ []
  pub pulse : packed.pulse ≡ row 0x88 0x00 ∷ []
  pub filter : packed.filter ≡ []
  pub speed : packed.speed ≡ row 0x83 0x20 ∷ []
  pub facts : packed.facts ≡ marked
  pub numbers : packed.numbers ≡ range

abbrev pub from : ℕ → ℕ → NumberRange
from first count = record { first = first; count = count }

-- C-3, $08B4, and the two above it, $0938 and $09C4
abbrev pub IsSmallSong : PackedSong → Type 0
IsSmallSong packed = IsSmallSongWith all_read (from 36 3) packed

-- ---- its bytes

-- behind the speed table, and what is kept there: the wave table in its form, the pulse table, the instruments with
-- delays less one, the gateoff timer that they have in common, the number of the first that holds the envelope, the
-- addresses of the orderlists, which stand at $1FF5, $1FF8 and $1FFC, and the place before the pattern, which stands at
-- $2000; they themselves; and the frequencies
abbrev pub last_bytes : List ℕ
last_bytes =
    0xE2 ∷ 0x01 ∷ 0xF1 ∷ 0xFF
    ∷ 0x80 ∷ 0x0C ∷ 0x03 ∷ 0x02
    ∷ 0x88 ∷ 0x00
    ∷ 0x09 ∷ 0x0A ∷ 0xA0 ∷ 0x90 ∷ 0x01 ∷ 0x02 ∷ 0x00 ∷ 0x00 ∷ 0x00 ∷ 0x00
    ∷ 0x00 ∷ 0x01 ∷ 0xFF ∷ 0x04 ∷ 0x41 ∷ 0x11
    ∷ 0x02
    ∷ 0x02
    ∷ 0xF5 ∷ 0xF8 ∷ 0xFC
    ∷ 0x1F ∷ 0x1F ∷ 0x1F
    ∷ 0xFF
    ∷ 0x1F
    ∷ 0x00 ∷ 0xFF ∷ 0x00
    ∷ 0xF2 ∷ 0x00 ∷ 0xFF ∷ 0x01
    ∷ 0xD1 ∷ 0x00 ∷ 0xFF ∷ 0x00
    ∷ 0xC0 ∷ 0x00
    ∷ 0xB4 ∷ 0x38 ∷ 0xC4
    ∷ 0x08 ∷ 0x09 ∷ 0x09 ∷ []

-- without calculated speeds, from $1FCD on
abbrev pub plain_bytes : List ℕ
plain_bytes = 0x00 ∷ 0x20 ∷ 0x00 ∷ 0x83 ∷ last_bytes

-- with them, from $1FC7 on, so that the orderlists and the pattern stand at the same addresses
abbrev pub kept_bytes : List ℕ
kept_bytes =
    0x00 ∷ 0x20 ∷ 0x00 ∷ 0x83
    ∷ 0x00 ∷ 0x20
    ∷ 0x00 ∷ 0x83
    ∷ 0x00 ∷ 0x03
    ∷ last_bytes

-- ---- its lines

-- the frequencies' bytes
abbrev pub frequency_bytes : List ℕ
frequency_bytes = 0xB4 ∷ 0x38 ∷ 0xC4 ∷ 0x08 ∷ 0x09 ∷ 0x09 ∷ []

-- from the first left side of the wave table on, where a delay of two frames stands as this byte, the delay of no
-- vibrato as this one, this is the one gateoff timer, this the number of the first that holds the envelope, this the
-- low byte for the pattern, and these are the frequencies' bytes; 36 bytes in front of their first ones stand the
-- frequencies' labels
abbrev pub last_lines_with : ℕ → ℕ → ℕ → ℕ → ℕ → List ℕ → List Line
last_lines_with delay no_vibrato timer envelope low frequencies =
    label_line NEXT_WAVE_LEFTS ∷ bytes_line (delay ∷ 0x01 ∷ 0xF1 ∷ [])
    ∷ label_line WAVE_RIGHTS ∷ bytes_line (0xFF ∷ [])
    ∷ label_line NEXT_WAVE_RIGHTS ∷ bytes_line (0x80 ∷ 0x0C ∷ 0x03 ∷ [])
    ∷ label_line PULSE_LEFTS ∷ bytes_line (0x02 ∷ [])
    ∷ label_line NEXT_PULSE_LEFTS ∷ bytes_line []
    ∷ label_line PULSE_RIGHTS ∷ bytes_line (0x88 ∷ [])
    ∷ label_line FILTER_LEFTS ∷ bytes_line []
    ∷ label_line FILTER_RIGHTS ∷ bytes_line []
    ∷ label_line ADS ∷ bytes_line (0x00 ∷ [])
    ∷ label_line NEXT_FILTER_LEFTS ∷ bytes_line (0x09 ∷ [])
    ∷ label_line SRS ∷ bytes_line (0x0A ∷ 0xA0 ∷ [])
    ∷ label_line FREQUENCY_LOWS ∷ bytes_line []
    ∷ label_line WAVES ∷ bytes_line (0x90 ∷ [])
    ∷ label_line NEXT_FREQUENCY_LOWS ∷ bytes_line (0x01 ∷ [])
    ∷ label_line PULSES ∷ bytes_line (0x02 ∷ [])
    ∷ label_line FREQUENCY_HIGHS ∷ bytes_line (0x00 ∷ [])
    ∷ label_line NEXT_FREQUENCY_HIGHS ∷ bytes_line []
    ∷ label_line FILTERS ∷ bytes_line (0x00 ∷ 0x00 ∷ [])
    ∷ label_line VIBRATOS ∷ bytes_line (0x00 ∷ 0x00 ∷ [])
    ∷ label_line DELAYS ∷ bytes_line (0x01 ∷ no_vibrato ∷ [])
    ∷ label_line GATE_TIMERS ∷ bytes_line []
    ∷ label_line FIRST_WAVES ∷ bytes_line (0x04 ∷ 0x41 ∷ 0x11 ∷ [])
    ∷ label_line ONE_TIMER ∷ bytes_line (timer ∷ [])
    ∷ label_line ONE_WAVE ∷ bytes_line []
    ∷ label_line GATE_FROM ∷ bytes_line []
    ∷ label_line ENVELOPE_FROM ∷ bytes_line (envelope ∷ [])
    ∷ label_line ORDERS_LOW ∷ bytes_line (0xF5 ∷ 0xF8 ∷ 0xFC ∷ [])
    ∷ label_line ORDERS_HIGH ∷ bytes_line (0x1F ∷ 0x1F ∷ 0x1F ∷ [])
    ∷ label_line PATTERNS_LOW ∷ bytes_line (low ∷ [])
    ∷ label_line PATTERNS_HIGH ∷ bytes_line (0x1F ∷ [])
    ∷ label_line ORDERS ∷ bytes_line (0x00 ∷ 0xFF ∷ 0x00 ∷ [])
    ∷ label_line (ORDERS + 1) ∷ bytes_line (0xF2 ∷ 0x00 ∷ 0xFF ∷ 0x01 ∷ [])
    ∷ label_line (ORDERS + 2) ∷ bytes_line (0xD1 ∷ 0x00 ∷ 0xFF ∷ 0x00 ∷ [])
    ∷ label_line PATTERNS ∷ bytes_line (0xC0 ∷ 0x00 ∷ frequencies)
    ∷ []

abbrev pub last_lines : List Line
last_lines = last_lines_with 0xE2 0xFF 0x02 0x02 0xFF frequency_bytes

-- Without calculated speeds the labels of the slides and of the periods are those of the speed table's sides: this is
-- the first of them.
abbrev pub plain_lines_with : ℕ → List Line → List Line
plain_lines_with slides last =
    bytes_line []
    ∷ label_line SPEED_RIGHTS ∷ bytes_line []
    ∷ label_line slides ∷ bytes_line (0x00 ∷ 0x20 ∷ [])
    ∷ label_line SPEED_LEFTS ∷ bytes_line []
    ∷ label_line PERIODS ∷ bytes_line []
    ∷ label_line SLIDES_HIGH ∷ bytes_line (0x00 ∷ [])
    ∷ label_line WAVE_LEFTS ∷ bytes_line (0x83 ∷ [])
    ∷ last

abbrev pub plain_lines : List Line
plain_lines = plain_lines_with SLIDES_LOW last_lines

-- with them they are lists of their own, the periods with this byte for the speed
abbrev pub kept_lines_with : ℕ → List Line
kept_lines_with period =
    bytes_line []
    ∷ label_line SPEED_RIGHTS ∷ bytes_line (0x00 ∷ 0x20 ∷ [])
    ∷ label_line SPEED_LEFTS ∷ bytes_line (0x00 ∷ 0x83 ∷ [])
    ∷ label_line SLIDES_LOW ∷ bytes_line (0x00 ∷ 0x20 ∷ [])
    ∷ label_line SLIDES_HIGH ∷ bytes_line (0x00 ∷ 0x83 ∷ [])
    ∷ label_line PERIODS ∷ bytes_line (0x00 ∷ [])
    ∷ label_line WAVE_LEFTS ∷ bytes_line (period ∷ [])
    ∷ last_lines

abbrev pub kept_lines : List Line
kept_lines = kept_lines_with 0x03

pub record SmallListsAreWorked (packed : PackedSong) : Type 0 where
  pub plain_bytes_are : data_bytes false packed 0x1FCD ≡ plain_bytes
  pub kept_bytes_are : data_bytes true packed 0x1FC7 ≡ kept_bytes
  pub plain : HasLines false packed 0x1FCD plain_lines
  pub kept : HasLines true packed 0x1FC7 kept_lines

abbrev pub SmallListsAre : Type 0
SmallListsAre = (packed : PackedSong) → IsSmallSong packed → SmallListsAreWorked packed

-- ---- its frequencies, where it asks for others

-- A-4, which is $1D46, and the one above it: in front of number 57 are 53 bytes, and four zeros
pub record FewAreInFront (packed : PackedSong) : Type 0 where
  pub gap : gap_bytes packed ≡ 0x00 ∷ 0x00 ∷ 0x00 ∷ 0x00 ∷ []
  pub bytes : drop 51 (data_bytes false packed 0x1FCD)
      ≡ 0xC0 ∷ 0x00 ∷ 0x00 ∷ 0x00 ∷ 0x00 ∷ 0x00 ∷ 0x46 ∷ 0x04 ∷ 0x1D ∷ 0x1F ∷ []
  pub lows : frequency_lows packed ≡ 0x46 ∷ 0x04 ∷ []
  pub highs : frequency_highs packed ≡ 0x1D ∷ 0x1F ∷ []
  pub low_label : label_place false packed FrequencyLows ≡ 0
  pub high_label : label_place false packed FrequencyHighs ≡ 2
  pub kept_label : label_place true packed FrequencyLows ≡ 6
  pub size : lists_size false packed ≡ 61

-- none: the labels are in front of the last byte
pub record NoneIsListed (packed : PackedSong) : Type 0 where
  pub gap : gap_bytes packed ≡ []
  pub lows : frequency_lows packed ≡ []
  pub low_label : label_place false packed FrequencyLows ≡ 52
  pub high_label : label_place false packed FrequencyHighs ≡ 52
  pub size : lists_size false packed ≡ 53

-- B-7, and two above it, whose frequencies are zeros
pub record LastAreListed (packed : PackedSong) : Type 0 where
  pub lows : frequency_lows packed ≡ 0xFF ∷ 0x00 ∷ 0x00 ∷ []
  pub highs : frequency_highs packed ≡ 0xFF ∷ 0x00 ∷ 0x00 ∷ []

pub record FrequenciesAreWorked : Type 0 where
  pub few : (packed : PackedSong) → IsSmallSongWith all_read (from 57 2) packed → FewAreInFront packed
  pub none : (packed : PackedSong) → IsSmallSongWith all_read (from 0 0) packed → NoneIsListed packed
  pub last : (packed : PackedSong) → IsSmallSongWith all_read (from 95 3) packed → LastAreListed packed

-- ---- its instruments, where five of their fields aren't read

-- The lists of these fields have no bytes: of two instruments the delays follow the wave programs, and these are the
-- last. Behind them stand a gateoff timer and a first waveform for all instruments, those of the first one, or zeros
-- where there is none. So the orderlists and what stands behind them stand eight bytes further in front. In front of
-- number 57 are 45 bytes, and twelve zeros.
pub record FewAreRead (packed : PackedSong) : Type 0 where
  pub bytes : drop 14 (data_bytes false packed 0x1FD5)
      ≡ 0x09 ∷ 0x0A ∷ 0xA0 ∷ 0x90 ∷ 0x01 ∷ 0x02 ∷ 0xFF ∷ 0x04 ∷ 0x02 ∷ 0x41
      ∷ 0xF5 ∷ 0xF8 ∷ 0xFC ∷ 0x1F ∷ 0x1F ∷ 0x1F ∷ 0xFF ∷ 0x1F ∷ 0x00 ∷ 0xFF ∷ 0x00 ∷ 0xF2 ∷ 0x00 ∷ 0xFF ∷ 0x01
      ∷ 0xD1 ∷ 0x00 ∷ 0xFF ∷ 0x00 ∷ 0xC0 ∷ 0x00 ∷ 0xB4 ∷ 0x38 ∷ 0xC4 ∷ 0x08 ∷ 0x09 ∷ 0x09 ∷ []
  pub fields : map (λ field. label_place false packed (Instruments field)) (range_with_len 0 9)
      ≡ 13 ∷ 15 ∷ 17 ∷ 19 ∷ 19 ∷ 19 ∷ 19 ∷ 21 ∷ 21 ∷ []
  pub timer : label_place false packed OneTimer ≡ 22
  pub wave : label_place false packed OneWave ≡ 23
  pub orders : label_place false packed OrderLows ≡ 24
  pub no_instrument : shared_lists (record packed { instruments = [] })
      ≡ (0x00 ∷ []) ∷ (0x00 ∷ []) ∷ [] ∷ [] ∷ []
  pub size : lists_size false packed ≡ 51

-- where their gateoff timers are read as their own, a first waveform alone stands for all of them
pub record OneWaveIsRead (packed : PackedSong) : Type 0 where
  pub bytes : drop 18 (data_bytes false packed 0x1FD6)
      ≡ 0x01 ∷ 0x02 ∷ 0x02 ∷ 0x82 ∷ 0x41
      ∷ 0xF5 ∷ 0xF8 ∷ 0xFC ∷ 0x1F ∷ 0x1F ∷ 0x1F ∷ 0xFF ∷ 0x1F ∷ 0x00 ∷ 0xFF ∷ 0x00 ∷ 0xF2 ∷ 0x00 ∷ 0xFF ∷ 0x01
      ∷ 0xD1 ∷ 0x00 ∷ 0xFF ∷ 0x00 ∷ 0xC0 ∷ 0x00 ∷ 0xB4 ∷ 0x38 ∷ 0xC4 ∷ 0x08 ∷ 0x09 ∷ 0x09 ∷ []
  pub timer : label_place false packed OneTimer ≡ 22
  pub wave : label_place false packed OneWave ≡ 22
  pub orders : label_place false packed OrderLows ≡ 23
  pub size : lists_size false packed ≡ 50

pub record FewerAreInFront (packed : PackedSong) : Type 0 where
  pub gap : gap_size packed ≡ 12
  pub size : lists_size false packed ≡ 61

pub record FewFieldsAreWorked : Type 0 where
  pub few : (packed : PackedSong) → IsSmallSongWith delay_read (from 36 3) packed → FewAreRead packed
  pub wave : (packed : PackedSong) → IsSmallSongWith timer_read (from 36 3) packed → OneWaveIsRead packed
  pub front : (packed : PackedSong) → IsSmallSongWith delay_read (from 57 2) packed → FewerAreInFront packed

-- ---- the numbers from which on its instruments hold the gate and the envelope

-- one that holds the gate as well
abbrev pub gate_instrument : PackedInstrument
gate_instrument = record { bytes = 0x0B ∷ 0x80 ∷ 0x00 ∷ 0x00 ∷ 0x00 ∷ 0x00 ∷ 0x00 ∷ 0x42 ∷ 0x21 ∷ [] }

abbrev pub both_held : Facts
both_held = record all_read { legato = true }

-- with these instruments in place of its own
abbrev pub with_instruments : PackedSong → List PackedInstrument → PackedSong
with_instruments packed instruments = record packed { instruments = instruments }

-- the gateoff timers where they are read
abbrev pub timers : PackedSong → List ℕ
timers packed = instrument_bytes packed 7

pub record HoldersAreWorked (packed : PackedSong) : Type 0 where
  -- the third holds the gate, and the second the envelope; behind them stand the addresses of the orderlists
  pub both : shared_lists (with_instruments packed (plain_instrument ∷ vibrato_instrument ∷ gate_instrument ∷ []))
      ≡ (0x02 ∷ []) ∷ [] ∷ (0x03 ∷ []) ∷ (0x02 ∷ []) ∷ []
  pub places : map (label_place false packed) (OneTimer ∷ OneWave ∷ GateFrom ∷ EnvelopeFrom ∷ OrderLows ∷ [])
      ≡ 30 ∷ 31 ∷ 31 ∷ 32 ∷ 33 ∷ []
  pub size : lists_size false packed ≡ 60
  -- all hold the gate; and none anything: then the numbers are one more than the last one has
  pub all : shared_lists (with_instruments packed (gate_instrument ∷ gate_instrument ∷ []))
      ≡ (0x02 ∷ []) ∷ [] ∷ (0x01 ∷ []) ∷ (0x01 ∷ []) ∷ []
  pub none : shared_lists (with_instruments packed (plain_instrument ∷ plain_instrument ∷ []))
      ≡ (0x02 ∷ []) ∷ [] ∷ (0x03 ∷ []) ∷ (0x03 ∷ []) ∷ []
  pub no_timers : timers packed ≡ []
  -- not the number of the first that holds the envelope in place of the gate's
  pub other : ¬ (gate_from_bytes packed ≡ 0x02 ∷ [])

-- where the first holds more than another, the timers stand in place of the numbers
pub record TheFirstHolds (packed : PackedSong) : Type 0 where
  pub shared : shared_lists (with_instruments packed (vibrato_instrument ∷ plain_instrument ∷ []))
      ≡ (0x02 ∷ []) ∷ [] ∷ [] ∷ [] ∷ []
  pub timers : timers (with_instruments packed (vibrato_instrument ∷ plain_instrument ∷ [])) ≡ 0x82 ∷ 0x02 ∷ []
  pub places : map (label_place false packed) (OneTimer ∷ OneWave ∷ GateFrom ∷ EnvelopeFrom ∷ OrderLows ∷ [])
      ≡ 32 ∷ 33 ∷ 33 ∷ 33 ∷ 33 ∷ []
  pub size : lists_size false packed ≡ 60
  -- with no number
  pub other : ¬ (envelope_from_bytes packed ≡ 0x02 ∷ [])

-- where no instrument holds the envelope alone, the gate's number stands alone; and where none holds anything, neither
pub record OneIsHeld : Type 0 where
  pub gate : (packed : PackedSong) → IsSmallSongWith (record both_held { no_hard_restart = false }) (from 36 3) packed →
      shared_lists (with_instruments packed (plain_instrument ∷ gate_instrument ∷ []))
      ≡ (0x02 ∷ []) ∷ [] ∷ (0x02 ∷ []) ∷ [] ∷ []
  pub none : (packed : PackedSong) → IsSmallSongWith (record all_read { no_hard_restart = false }) (from 36 3) packed →
      shared_lists packed ≡ (0x02 ∷ []) ∷ [] ∷ [] ∷ [] ∷ []

pub record HoldersAre : Type 0 where
  pub both : (packed : PackedSong) → IsSmallSongWith both_held (from 36 3) packed → HoldersAreWorked packed
  pub first : (packed : PackedSong) → IsSmallSongWith (record both_held { first_holds = true }) (from 36 3) packed →
      TheFirstHolds packed
  pub one : OneIsHeld

-- ---- its orderlists, where their addresses aren't listed

-- Behind the one gateoff timer and the number of the first that holds the envelope stands the place before the pattern.
-- The labels of the addresses' lists name the byte where these would be.
pub record NoneAreAddressed (packed : PackedSong) : Type 0 where
  pub bytes : drop 30 (data_bytes false packed 0x1FD3)
      ≡ 0x02 ∷ 0x02 ∷ 0xFF ∷ 0x1F ∷ 0x00 ∷ 0xFF ∷ 0x00 ∷ 0xF2 ∷ 0x00 ∷ 0xFF ∷ 0x01
      ∷ 0xD1 ∷ 0x00 ∷ 0xFF ∷ 0x00 ∷ 0xC0 ∷ 0x00 ∷ 0xB4 ∷ 0x38 ∷ 0xC4 ∷ 0x08 ∷ 0x09 ∷ 0x09 ∷ []
  pub low : label_place false packed OrderLows ≡ 32
  pub high : label_place false packed OrderHighs ≡ 32
  pub pattern_low : label_place false packed PatternLows ≡ 32
  pub pattern_high : label_place false packed PatternHighs ≡ 33
  pub order : label_place false packed (OrderBytes 0 2) ≡ 41
  -- the addresses that stand in the variables, and with the third one byte further on
  pub first : AreFirstOrders false packed 0x1FD3 (0x1FF5 ∷ 0x1FF8 ∷ 0x1FFC ∷ [])
  pub other : ¬ AreFirstOrders false packed 0x1FD3 (0x1FF5 ∷ 0x1FF8 ∷ 0x1FFD ∷ [])
  pub size : lists_size false packed ≡ 53

abbrev pub OneSubtuneIs : Type 0
OneSubtuneIs = (packed : PackedSong) → IsSmallSongWith one_alone (from 36 3) packed → NoneAreAddressed packed

-- ---- where its orderlists are

pub record FirstOrdersAreWorked (packed : PackedSong) : Type 0 where
  -- without calculated speeds and with them
  pub plain : AreFirstOrders false packed 0x1FCD (0x1FF5 ∷ 0x1FF8 ∷ 0x1FFC ∷ [])
  pub kept : AreFirstOrders true packed 0x1FC7 (0x1FF5 ∷ 0x1FF8 ∷ 0x1FFC ∷ [])
  -- one byte further on, each alone
  pub one : ¬ AreFirstOrders false packed 0x1FCD (0x1FF6 ∷ 0x1FF8 ∷ 0x1FFC ∷ [])
  pub two : ¬ AreFirstOrders false packed 0x1FCD (0x1FF5 ∷ 0x1FF9 ∷ 0x1FFC ∷ [])
  pub three : ¬ AreFirstOrders false packed 0x1FCD (0x1FF5 ∷ 0x1FF8 ∷ 0x1FFD ∷ [])
  -- those of lists that are to stand elsewhere, and of the other flag
  pub elsewhere : ¬ AreFirstOrders false packed 0x1FCE (0x1FF5 ∷ 0x1FF8 ∷ 0x1FFC ∷ [])
  pub flag : ¬ AreFirstOrders true packed 0x1FCD (0x1FF5 ∷ 0x1FF8 ∷ 0x1FFC ∷ [])

abbrev pub FirstOrdersAre : Type 0
FirstOrdersAre = (packed : PackedSong) → IsSmallSong packed → FirstOrdersAreWorked packed

-- ---- listings that aren't of this song

pub record OtherListingsAreNot (packed : PackedSong) : Type 0 where
  -- those of the other flag, and those that are to stand elsewhere
  pub without : ¬ HasLines true packed 0x1FCD plain_lines
  pub with_speeds : ¬ HasLines false packed 0x1FC7 kept_lines
  pub elsewhere : ¬ HasLines false packed 0x1FCE plain_lines
  -- a delay of the wave table, the delay of no vibrato and a period as the song has them, the one gateoff timer with
  -- the bit that holds the envelope, the number of the first that holds the gate in place of the envelope's, and the
  -- pattern's address
  pub delay : ¬ HasLines false packed 0x1FCD (plain_lines_with SLIDES_LOW
      (last_lines_with 0x02 0xFF 0x02 0x02 0xFF frequency_bytes))
  pub no_vibrato : ¬ HasLines false packed 0x1FCD (plain_lines_with SLIDES_LOW
      (last_lines_with 0xE2 0x00 0x02 0x02 0xFF frequency_bytes))
  pub timer : ¬ HasLines false packed 0x1FCD (plain_lines_with SLIDES_LOW
      (last_lines_with 0xE2 0xFF 0x82 0x02 0xFF frequency_bytes))
  pub envelope : ¬ HasLines false packed 0x1FCD (plain_lines_with SLIDES_LOW
      (last_lines_with 0xE2 0xFF 0x02 0x03 0xFF frequency_bytes))
  pub pattern : ¬ HasLines false packed 0x1FCD (plain_lines_with SLIDES_LOW
      (last_lines_with 0xE2 0xFF 0x02 0x02 0x00 frequency_bytes))
  pub period : ¬ HasLines true packed 0x1FC7 (kept_lines_with 0x83)
  -- frequencies that begin one number too late, and such without the last one
  pub late : ¬ HasLines false packed 0x1FCD (plain_lines_with SLIDES_LOW
      (last_lines_with 0xE2 0xFF 0x02 0x02 0xFF (0x38 ∷ 0xC4 ∷ 0x59 ∷ 0x09 ∷ 0x09 ∷ 0x0A ∷ [])))
  pub short : ¬ HasLines false packed 0x1FCD (plain_lines_with SLIDES_LOW
      (last_lines_with 0xE2 0xFF 0x02 0x02 0xFF (0xB4 ∷ 0x38 ∷ 0x08 ∷ 0x09 ∷ [])))
  -- the label of the slides left out
  pub label : ¬ HasLines false packed 0x1FCD (plain_lines_with SPEED_RIGHTS last_lines)

-- beside them one without the zeros that fill the gap, one with fields that aren't read, and one with addresses that
-- aren't listed
pub record OtherListingsAre : Type 0 where
  pub small : (packed : PackedSong) → IsSmallSong packed → OtherListingsAreNot packed
  pub gap : (packed : PackedSong) → IsSmallSongWith all_read (from 57 2) packed →
      ¬ HasLines false packed 0x1FCD (plain_lines_with SLIDES_LOW
      (last_lines_with 0xE2 0xFF 0x02 0x02 0xFF (0x46 ∷ 0x04 ∷ 0x1D ∷ 0x1F ∷ [])))
  pub fields : (packed : PackedSong) → IsSmallSongWith delay_read (from 36 3) packed →
      ¬ HasLines false packed 0x1FCD plain_lines
  pub addresses : (packed : PackedSong) → IsSmallSongWith one_alone (from 36 3) packed →
      ¬ HasLines false packed 0x1FCD plain_lines
