-- The lists of a small packed song, worked by hand: under which label each stands, its first number, and its bytes.
use Rattle.std.specs.Prelude.{◌≡◌, ℕ, ◌+◌, ◌≤◌, ◌&&◌, Bool, true, false, nat_eq, nat_le, nat_lt, if◌then◌else◌}
use Rattle.std.specs.Prelude.{List, [], ◌∷◌, ◌++◌, map}
use Rattle.std.specs.List.{range_with_len}
use Rattle.std.proofs.Common.{arith}
use Rattle.song_model.specs.declared.tables.TableRow.{TableRow}
use Rattle.song_model.specs.declared.tables.TableName.TheVariants.{Wave, Pulse, Filter, Speed}
use Rattle.packed_form.specs.declared.packed_songs.PackedSubtune.{PackedSubtune}
use Rattle.packed_form.specs.declared.packed_songs.PackedInstrument.{PackedInstrument}
use Rattle.packed_form.specs.declared.packed_songs.PackedSong.{PackedSong}
use Rattle.song_facts.specs.declared.facts.Facts.{Facts}
use Rattle.song_facts.specs.Facts.{no_facts}
use Rattle.scopes.specs.Desk.{Layout}
use Rattle.player_memory.specs.declared.labels.TheConstants.{FREQUENCY_LOWS, FREQUENCY_HIGHS, SPEED_LEFTS, SPEED_RIGHTS}
use Rattle.player_memory.specs.declared.labels.TheConstants.{WAVE_LEFTS, WAVE_RIGHTS, PULSE_LEFTS, PULSE_RIGHTS}
use Rattle.player_memory.specs.declared.labels.TheConstants.{FILTER_LEFTS, FILTER_RIGHTS, PERIODS, ADS, SRS, WAVES}
use Rattle.player_memory.specs.declared.labels.TheConstants.{PULSES, FILTERS, VIBRATOS, DELAYS, GATE_TIMERS}
use Rattle.player_memory.specs.declared.labels.TheConstants.{FIRST_WAVES, ORDERS_LOW, ORDERS_HIGH, PATTERNS_LOW}
use Rattle.player_memory.specs.declared.labels.TheConstants.{PATTERNS_HIGH, ORDERS, PATTERNS, SLIDES_LOW, SLIDES_HIGH}
use Rattle.player_memory.specs.declared.labels.TheConstants.{NEXT_FREQUENCY_LOWS, NEXT_FREQUENCY_HIGHS}
use Rattle.player_memory.specs.declared.labels.TheConstants.{NEXT_WAVE_LEFTS, NEXT_WAVE_RIGHTS, NEXT_PULSE_LEFTS}
use Rattle.player_memory.specs.declared.labels.TheConstants.{NEXT_FILTER_LEFTS, ONE_TIMER, ONE_WAVE, GATE_FROM}
use Rattle.player_memory.specs.declared.labels.TheConstants.{ENVELOPE_FROM}
use Rattle.player_memory.specs.SongLists.{SongList, FrequencyLows, FrequencyHighs, Lefts, Rights, Periods, Instruments}
use Rattle.player_memory.specs.SongLists.{OneTimer, OneWave, GateFrom, EnvelopeFrom}
use Rattle.player_memory.specs.SongLists.{OrderLows, OrderHighs, PatternLows, PatternHighs}
use Rattle.player_memory.specs.SongLists.{OrderBytes, PatternBytes}
use Rattle.player_memory.specs.SongLists.{is_read, unread_size, unlisted_size, shared_size, bytes_in_front, gap_size}
use Rattle.player_memory.specs.SongLists.{first_number, list_length, list_byte, list_label, IsSongList, HasNumber}
use Rattle.player_memory.specs.WorkedForms.{sides}
use Rattle.player_memory.specs.WorkedMemory.{at_1000}

-- ---- the song

-- two instruments, in which no field has the same two bytes as another
abbrev pub swinging : PackedInstrument
swinging = record { bytes = 0x29 ∷ 0xA5 ∷ 0x02 ∷ 0x01 ∷ 0x00 ∷ 0x02 ∷ 0x06 ∷ 0x02 ∷ 0x09 ∷ [] }

abbrev pub filtered : PackedInstrument
filtered = record { bytes = 0x0A ∷ 0x88 ∷ 0x01 ∷ 0x00 ∷ 0x01 ∷ 0x00 ∷ 0x00 ∷ 0x82 ∷ 0x11 ∷ [] }

abbrev pub first_subtune : PackedSubtune
first_subtune = record {
  one = 0x00 ∷ 0xFF ∷ 0x00 ∷ [];
  two = 0xF2 ∷ 0x01 ∷ 0xFF ∷ 0x01 ∷ [];
  three = 0xD1 ∷ 0x00 ∷ 0x01 ∷ 0xFF ∷ 0x02 ∷ [];
}

abbrev pub second_subtune : PackedSubtune
second_subtune = record {
  one = 0x01 ∷ 0x00 ∷ 0xFF ∷ 0x01 ∷ [];
  two = 0x01 ∷ 0xFF ∷ 0x00 ∷ [];
  three = 0xE1 ∷ 0x00 ∷ 0xD2 ∷ 0x01 ∷ 0xFF ∷ 0x00 ∷ [];
}

-- Each of the fields that need a fact has one in them, but the gateoff timer: the instruments have one, but for the bit
-- that holds the envelope, and stand in the order of what they hold. They have two first waveforms. There are two
-- subtunes.
abbrev pub its_facts : Facts
its_facts = record no_facts {
  no_hard_restart = true;
  wave_delay = true;
  gate_note = true;
  note_vibrato = true;
  vibrato_delay = true;
  note_pulse = true;
  note_filter = true;
  own_wave = true;
  subtunes = true;
}

-- A note and a keyoff with the first of them, and a note with the second; with this speed table. Let it ask for the
-- numbers 5 to 97.
abbrev pub song_with : List TableRow → PackedSong
song_with speeds = record {
  subtunes = first_subtune ∷ second_subtune ∷ [];
  patterns = (0x01 ∷ 0x90 ∷ 0xBE ∷ 0x00 ∷ []) ∷ (0x02 ∷ 0x94 ∷ 0x00 ∷ []) ∷ [];
  instruments = swinging ∷ filtered ∷ [];
  wave = sides 0x41 0x00 ∷ sides 0x03 0x8C ∷ sides 0xE1 0x85 ∷ sides 0xFF 0x02 ∷ [];
  pulse = sides 0x88 0x40 ∷ sides 0xFF 0x00 ∷ [];
  filter = sides 0x90 0xF1 ∷ sides 0x00 0x20 ∷ sides 0xFF 0x00 ∷ [];
  speed = speeds;
  features = record { 0 = 0x40A183 };
  features_within = omega arith;
  facts = its_facts;
  numbers = record { first = 5; count = 93 };
  numbers_within = omega arith;
}

-- with a speed that is calculated, and with none
abbrev pub worked_song : PackedSong
worked_song = song_with (sides 0x04 0x30 ∷ sides 0x83 0x02 ∷ sides 0x10 0x05 ∷ [])

abbrev pub plain_song : PackedSong
plain_song = song_with (sides 0x04 0x30 ∷ sides 0x03 0x02 ∷ sides 0x10 0x05 ∷ [])

-- ---- its lists

-- a list, its label, the place of its number 0, its first number, and its bytes from that on
pub record Piece : Type 0 where
  pub list : SongList
  pub label : ℕ
  pub place : ℕ
  pub first : ℕ
  pub bytes : List ℕ

abbrev pub piece : SongList → ℕ → ℕ → ℕ → List ℕ → Piece
piece list label place first bytes =
    record { list = list; label = label; place = place; first = first; bytes = bytes }

-- from F-0 on, an octave a line; above B-7 there are two zeros
abbrev pub low_bytes : List ℕ
low_bytes =
    0x73 ∷ 0x89 ∷ 0xA1 ∷ 0xBA ∷ 0xD4 ∷ 0xF0 ∷ 0x0D
    ∷ 0x2D ∷ 0x4E ∷ 0x71 ∷ 0x96 ∷ 0xBD ∷ 0xE7 ∷ 0x13 ∷ 0x42 ∷ 0x74 ∷ 0xA8 ∷ 0xE0 ∷ 0x1B
    ∷ 0x5A ∷ 0x9C ∷ 0xE2 ∷ 0x2C ∷ 0x7B ∷ 0xCF ∷ 0x27 ∷ 0x85 ∷ 0xE8 ∷ 0x51 ∷ 0xC1 ∷ 0x37
    ∷ 0xB4 ∷ 0x38 ∷ 0xC4 ∷ 0x59 ∷ 0xF7 ∷ 0x9E ∷ 0x4F ∷ 0x0A ∷ 0xD0 ∷ 0xA3 ∷ 0x82 ∷ 0x6E
    ∷ 0x68 ∷ 0x71 ∷ 0x89 ∷ 0xB3 ∷ 0xEE ∷ 0x3C ∷ 0x9E ∷ 0x14 ∷ 0xA1 ∷ 0x46 ∷ 0x04 ∷ 0xDC
    ∷ 0xD0 ∷ 0xE2 ∷ 0x13 ∷ 0x66 ∷ 0xDD ∷ 0x78 ∷ 0x3C ∷ 0x29 ∷ 0x43 ∷ 0x8C ∷ 0x08 ∷ 0xB8
    ∷ 0xA1 ∷ 0xC4 ∷ 0x27 ∷ 0xCD ∷ 0xBA ∷ 0xF1 ∷ 0x78 ∷ 0x53 ∷ 0x87 ∷ 0x19 ∷ 0x10 ∷ 0x71
    ∷ 0x42 ∷ 0x89 ∷ 0x4F ∷ 0x9B ∷ 0x74 ∷ 0xE2 ∷ 0xF0 ∷ 0xA6 ∷ 0x0E ∷ 0x33 ∷ 0x20 ∷ 0xFF
    ∷ 0x00 ∷ 0x00 ∷ []

abbrev pub high_bytes : List ℕ
high_bytes =
    0x01 ∷ 0x01 ∷ 0x01 ∷ 0x01 ∷ 0x01 ∷ 0x01 ∷ 0x02
    ∷ 0x02 ∷ 0x02 ∷ 0x02 ∷ 0x02 ∷ 0x02 ∷ 0x02 ∷ 0x03 ∷ 0x03 ∷ 0x03 ∷ 0x03 ∷ 0x03 ∷ 0x04
    ∷ 0x04 ∷ 0x04 ∷ 0x04 ∷ 0x05 ∷ 0x05 ∷ 0x05 ∷ 0x06 ∷ 0x06 ∷ 0x06 ∷ 0x07 ∷ 0x07 ∷ 0x08
    ∷ 0x08 ∷ 0x09 ∷ 0x09 ∷ 0x0A ∷ 0x0A ∷ 0x0B ∷ 0x0C ∷ 0x0D ∷ 0x0D ∷ 0x0E ∷ 0x0F ∷ 0x10
    ∷ 0x11 ∷ 0x12 ∷ 0x13 ∷ 0x14 ∷ 0x15 ∷ 0x17 ∷ 0x18 ∷ 0x1A ∷ 0x1B ∷ 0x1D ∷ 0x1F ∷ 0x20
    ∷ 0x22 ∷ 0x24 ∷ 0x27 ∷ 0x29 ∷ 0x2B ∷ 0x2E ∷ 0x31 ∷ 0x34 ∷ 0x37 ∷ 0x3A ∷ 0x3E ∷ 0x41
    ∷ 0x45 ∷ 0x49 ∷ 0x4E ∷ 0x52 ∷ 0x57 ∷ 0x5C ∷ 0x62 ∷ 0x68 ∷ 0x6E ∷ 0x75 ∷ 0x7C ∷ 0x83
    ∷ 0x8B ∷ 0x93 ∷ 0x9C ∷ 0xA5 ∷ 0xAF ∷ 0xB9 ∷ 0xC4 ∷ 0xD0 ∷ 0xDD ∷ 0xEA ∷ 0xF8 ∷ 0xFF
    ∷ 0x00 ∷ 0x00 ∷ []

-- The frequencies begin at the first number that is asked for, and the lists of tables and instruments at number 1,
-- behind the place that has their label; that of the speed table has a row 0 besides.
abbrev pub table_pieces : List Piece
table_pieces =
    piece FrequencyLows FREQUENCY_LOWS 0x1210 5 low_bytes
    ∷ piece FrequencyHighs FREQUENCY_HIGHS 0x12A0 5 high_bytes
    ∷ piece (Lefts Speed) SPEED_LEFTS 0x1108 0 (0x00 ∷ 0x04 ∷ 0x83 ∷ 0x10 ∷ [])
    ∷ piece (Rights Speed) SPEED_RIGHTS 0x110C 0 (0x00 ∷ 0x30 ∷ 0x02 ∷ 0x05 ∷ [])
    ∷ piece Periods PERIODS 0x1110 0 (0x00 ∷ 0x04 ∷ 0x03 ∷ 0x10 ∷ [])
    ∷ piece (Lefts Wave) WAVE_LEFTS 0x1113 1 (0x41 ∷ 0xE3 ∷ 0x01 ∷ 0xFF ∷ [])
    ∷ piece (Rights Wave) WAVE_RIGHTS 0x1117 1 (0x80 ∷ 0x0C ∷ 0x05 ∷ 0x02 ∷ [])
    ∷ piece (Lefts Pulse) PULSE_LEFTS 0x111B 1 (0x88 ∷ 0xFF ∷ [])
    ∷ piece (Rights Pulse) PULSE_RIGHTS 0x111D 1 (0x40 ∷ 0x00 ∷ [])
    ∷ piece (Lefts Filter) FILTER_LEFTS 0x111F 1 (0x90 ∷ 0x00 ∷ 0xFF ∷ [])
    ∷ piece (Rights Filter) FILTER_RIGHTS 0x1122 1 (0xF1 ∷ 0x20 ∷ 0x00 ∷ [])
    ∷ []

-- the delay of a vibrato stands less one
abbrev pub instrument_pieces : List Piece
instrument_pieces =
    piece (Instruments 0) ADS 0x1125 1 (0x29 ∷ 0x0A ∷ [])
    ∷ piece (Instruments 1) SRS 0x1127 1 (0xA5 ∷ 0x88 ∷ [])
    ∷ piece (Instruments 2) WAVES 0x1129 1 (0x02 ∷ 0x01 ∷ [])
    ∷ piece (Instruments 3) PULSES 0x112B 1 (0x01 ∷ 0x00 ∷ [])
    ∷ piece (Instruments 4) FILTERS 0x112D 1 (0x00 ∷ 0x01 ∷ [])
    ∷ piece (Instruments 5) VIBRATOS 0x112F 1 (0x02 ∷ 0x00 ∷ [])
    ∷ piece (Instruments 6) DELAYS 0x1131 1 (0x05 ∷ 0xFF ∷ [])
    ∷ piece EnvelopeFrom ENVELOPE_FROM 0x1162 0 (0x02 ∷ [])
    ∷ piece (Instruments 8) FIRST_WAVES 0x1135 1 (0x09 ∷ 0x11 ∷ [])
    ∷ piece OneTimer ONE_TIMER 0x1160 0 (0x02 ∷ [])
    ∷ []

-- six orderlists, the second subtune's behind the first's, and two patterns; the place before a pattern is listed
abbrev pub order_pieces : List Piece
order_pieces =
    piece OrderLows ORDERS_LOW 0x1138 0 (0x48 ∷ 0x4B ∷ 0x4F ∷ 0x80 ∷ 0x91 ∷ 0xA2 ∷ [])
    ∷ piece OrderHighs ORDERS_HIGH 0x113E 0 (0x11 ∷ 0x11 ∷ 0x11 ∷ 0x11 ∷ 0x12 ∷ 0x13 ∷ [])
    ∷ piece PatternLows PATTERNS_LOW 0x1144 0 (0xFF ∷ 0x54 ∷ [])
    ∷ piece PatternHighs PATTERNS_HIGH 0x1146 0 (0x11 ∷ 0x11 ∷ [])
    ∷ piece (OrderBytes 0 0) ORDERS 0x1148 0 (0x00 ∷ 0xFF ∷ 0x00 ∷ [])
    ∷ piece (OrderBytes 0 1) (ORDERS + 1) 0x114B 0 (0xF2 ∷ 0x01 ∷ 0xFF ∷ 0x01 ∷ [])
    ∷ piece (OrderBytes 0 2) (ORDERS + 2) 0x114F 0 (0xD1 ∷ 0x00 ∷ 0x01 ∷ 0xFF ∷ 0x02 ∷ [])
    ∷ piece (OrderBytes 1 0) (ORDERS + 3) 0x1180 0 (0x01 ∷ 0x00 ∷ 0xFF ∷ 0x01 ∷ [])
    ∷ piece (OrderBytes 1 1) (ORDERS + 4) 0x1291 0 (0x01 ∷ 0xFF ∷ 0x00 ∷ [])
    ∷ piece (OrderBytes 1 2) (ORDERS + 5) 0x13A2 0 (0xE1 ∷ 0x00 ∷ 0xD2 ∷ 0x01 ∷ 0xFF ∷ 0x00 ∷ [])
    ∷ piece (PatternBytes 0) PATTERNS 0x1200 0 (0x01 ∷ 0x90 ∷ 0xBE ∷ 0x00 ∷ [])
    ∷ piece (PatternBytes 1) (PATTERNS + 1) 0x1155 0 (0x02 ∷ 0x94 ∷ 0x00 ∷ [])
    ∷ []

-- ---- where they stand

-- the places behind these lists' labels have labels of their own, and a list that isn't there has one, too
abbrev pub next_places : List (ℕ × ℕ)
next_places =
    (NEXT_FREQUENCY_LOWS, 0x1211) ∷ (NEXT_FREQUENCY_HIGHS, 0x12A1) ∷ (NEXT_WAVE_LEFTS, 0x1114)
    ∷ (NEXT_WAVE_RIGHTS, 0x1118) ∷ (NEXT_PULSE_LEFTS, 0x111C) ∷ (NEXT_FILTER_LEFTS, 0x1120)
    ∷ (ONE_WAVE, 0x1161) ∷ (GATE_FROM, 0x1163) ∷ (GATE_TIMERS, 0x1133) ∷ []

abbrev pub all_pieces : List Piece
all_pieces = table_pieces ++ instrument_pieces ++ order_pieces

abbrev pub place_with : List (ℕ × ℕ) → (ℕ → ℕ) → ℕ → ℕ
place_with [] others label = others label
place_with (row ∷ rows) others label = if nat_eq label row.0 then row.1 else place_with rows others label

-- the slides and the variables stand where they do in the room that is worked
abbrev pub list_layout : Layout
list_layout = record at_1000 {
  address = place_with (map (λ p. (p.label, p.place)) all_pieces ++ next_places) at_1000.address;
  open_turns = 255;
  may_read = λ place. nat_le 0x1000 place && nat_lt place 0x1400;
}

-- without the code for calculated speeds the slides and the periods are the sides of the speed table
abbrev pub plain_layout : Layout
plain_layout = record list_layout {
  address = place_with ((SLIDES_LOW, 0x110C) ∷ (SLIDES_HIGH, 0x1108) ∷ (PERIODS, 0x1108) ∷ []) list_layout.address;
  holds = λ condition. false;
}

-- ---- which fields are read

abbrev pub with_facts : Facts → PackedSong
with_facts facts = record worked_song { facts = facts }

-- with its first subtune alone
abbrev pub one_subtune : PackedSong
one_subtune = record worked_song {
  subtunes = first_subtune ∷ [];
  facts = record its_facts { subtunes = false };
}

-- whether each of the nine is, and a tenth, which there isn't; the bytes of the others, of two instruments; and how many
-- stand for both
abbrev pub reads_of : PackedSong → List Bool × ℕ × ℕ
reads_of packed = (map (is_read packed) (range_with_len 0 10), unread_size packed, shared_size packed)

pub record ReadFieldsAreWorked : Type 0 where
  pub all : reads_of worked_song
      ≡ (true ∷ true ∷ true ∷ true ∷ true ∷ true ∷ true ∷ false ∷ true ∷ false ∷ [], 2, 2)
  pub none : reads_of (with_facts no_facts)
      ≡ (true ∷ true ∷ true ∷ false ∷ false ∷ false ∷ false ∷ false ∷ false ∷ false ∷ [], 12, 2)
  -- for each of these facts its own field
  pub no_pulse : reads_of (with_facts (record its_facts { note_pulse = false }))
      ≡ (true ∷ true ∷ true ∷ false ∷ true ∷ true ∷ true ∷ false ∷ true ∷ false ∷ [], 4, 2)
  pub no_filter : reads_of (with_facts (record its_facts { note_filter = false }))
      ≡ (true ∷ true ∷ true ∷ true ∷ false ∷ true ∷ true ∷ false ∷ true ∷ false ∷ [], 4, 2)
  pub no_vibrato : reads_of (with_facts (record its_facts { note_vibrato = false }))
      ≡ (true ∷ true ∷ true ∷ true ∷ true ∷ false ∷ true ∷ false ∷ true ∷ false ∷ [], 4, 2)
  pub no_delay : reads_of (with_facts (record its_facts { vibrato_delay = false }))
      ≡ (true ∷ true ∷ true ∷ true ∷ true ∷ true ∷ false ∷ false ∷ true ∷ false ∷ [], 4, 2)
  pub one_wave : reads_of (with_facts (record its_facts { own_wave = false }))
      ≡ (true ∷ true ∷ true ∷ true ∷ true ∷ true ∷ true ∷ false ∷ false ∷ false ∷ [], 4, 3)
  -- the gateoff timer for either of two
  pub own_timer : reads_of (with_facts (record its_facts { own_timer = true }))
      ≡ (true ∷ true ∷ true ∷ true ∷ true ∷ true ∷ true ∷ true ∷ true ∷ false ∷ [], 0, 1)
  pub first_holds : reads_of (with_facts (record its_facts { legato = true; first_holds = true }))
      ≡ (true ∷ true ∷ true ∷ true ∷ true ∷ true ∷ true ∷ true ∷ true ∷ false ∷ [], 0, 1)
  -- a number stands for those that hold the gate, and for those that hold the envelope
  pub none_holds : reads_of (with_facts (record its_facts { no_hard_restart = false }))
      ≡ (true ∷ true ∷ true ∷ true ∷ true ∷ true ∷ true ∷ false ∷ true ∷ false ∷ [], 2, 1)
  pub gate_holds : reads_of (with_facts (record its_facts { no_hard_restart = false; legato = true }))
      ≡ (true ∷ true ∷ true ∷ true ∷ true ∷ true ∷ true ∷ false ∷ true ∷ false ∷ [], 2, 2)
  pub both_hold : reads_of (with_facts (record its_facts { legato = true }))
      ≡ (true ∷ true ∷ true ∷ true ∷ true ∷ true ∷ true ∷ false ∷ true ∷ false ∷ [], 2, 3)
  -- the addresses of six orderlists stand nowhere where the song hasn't several subtunes, and of three those of three
  pub listed : unlisted_size worked_song ≡ 0
  pub unlisted : unlisted_size (with_facts (record its_facts { subtunes = false })) ≡ 12
  pub of_one : unlisted_size one_subtune ≡ 6
  -- in front of the frequencies there are as many fewer bytes, and those that stand for both
  pub in_front : bytes_in_front worked_song ≡ 92
  pub in_front_of_one : bytes_in_front (record one_subtune { facts = its_facts }) ≡ 73
  pub in_front_unlisted : bytes_in_front one_subtune ≡ 67
  pub in_front_of_fewer : bytes_in_front (with_facts no_facts) ≡ 70

-- ---- gaps in front of the frequencies

-- it asks for the numbers from this one on, with these
abbrev pub asking : (first count : ℕ) → first + count ≤ 129 → PackedSong
asking first count within = record worked_song {
  numbers = record { first = first; count = count };
  numbers_within = within;
}

-- the song has 90 bytes
pub record GapsAreWorked : Type 0 where
  -- where it asks for none
  pub none : gap_size (asking 0 0 (omega arith)) ≡ 0
  -- with 92 bytes in front there is none up to number 92; from 93 on it is one byte more a number
  pub last : gap_size (asking 92 3 (omega arith)) ≡ 0
  pub beyond : gap_size (asking 93 3 (omega arith)) ≡ 1
  pub far : gap_size (asking 128 1 (omega arith)) ≡ 36
  -- with 70, where six fields of instruments aren't read, and the orderlists' addresses stand nowhere
  pub fewer : gap_size (record (asking 92 3 (omega arith)) { facts = no_facts }) ≡ 22

-- ---- as worked

pub record IsAsWorked (layout : Layout) (packed : PackedSong) (p : Piece) : Type 0 where
  pub is_list : IsSongList layout packed p.list
  pub label_is : list_label p.list ≡ p.label
  pub first_is : first_number packed p.list ≡ p.first
  pub bytes_are : map (list_byte layout packed p.list) (range_with_len p.first (list_length packed p.list)) ≡ p.bytes

abbrev pub AreAsWorked : Layout → PackedSong → List Piece → Type 0
AreAsWorked layout packed [] = Unit {0}
AreAsWorked layout packed (p ∷ pieces) = IsAsWorked layout packed p × AreAsWorked layout packed pieces

pub record SongListsAreWorked : Type 0 where
  pub read : ReadFieldsAreWorked
  pub gaps : GapsAreWorked
  pub tables : AreAsWorked list_layout worked_song table_pieces
  pub instruments : AreAsWorked list_layout worked_song instrument_pieces
  pub orders : AreAsWorked list_layout worked_song order_pieces
  -- none of these is one: a field, a subtune, a channel or a pattern too many, a field that isn't read, the orderlists'
  -- addresses where there is one subtune, or periods that aren't kept
  pub no_field : ¬ IsSongList list_layout worked_song (Instruments 9)
  pub no_subtune : ¬ IsSongList list_layout worked_song (OrderBytes 2 0)
  pub no_channel : ¬ IsSongList list_layout worked_song (OrderBytes 0 3)
  pub no_pattern : ¬ IsSongList list_layout worked_song (PatternBytes 2)
  pub no_pulses : ¬ IsSongList list_layout (with_facts no_facts) (Instruments 3)
  pub no_one_wave : ¬ IsSongList list_layout worked_song OneWave
  pub no_timers : ¬ IsSongList list_layout worked_song (Instruments 7)
  pub no_gate_from : ¬ IsSongList list_layout worked_song GateFrom
  pub no_envelope_from : ¬ IsSongList list_layout (with_facts (record its_facts { first_holds = true })) EnvelopeFrom
  pub no_one_timer : ¬ IsSongList list_layout (with_facts (record its_facts { own_timer = true })) OneTimer
  pub no_lows : ¬ IsSongList list_layout one_subtune OrderLows
  pub no_highs : ¬ IsSongList list_layout one_subtune OrderHighs
  pub own_order : IsSongList list_layout one_subtune (OrderBytes 0 2)
  -- a first waveform for both instruments, where they have one
  pub one_wave : IsAsWorked list_layout (with_facts (record its_facts { own_wave = false }))
      (piece OneWave ONE_WAVE 0x1161 0 (0x09 ∷ []))
  -- the gateoff timers, where they have two; and one behind the last where none holds its gate
  pub timers : IsAsWorked list_layout (with_facts (record its_facts { own_timer = true }))
      (piece (Instruments 7) GATE_TIMERS 0x1133 1 (0x02 ∷ 0x82 ∷ []))
  pub gate_from : IsAsWorked list_layout (with_facts (record its_facts { legato = true }))
      (piece GateFrom GATE_FROM 0x1163 0 (0x03 ∷ []))
  pub no_periods : ¬ IsSongList plain_layout plain_song Periods
  -- the numbers of a list at its ends
  pub speed_row_none : HasNumber worked_song (Rights Speed) 0
  pub speed_row : HasNumber worked_song (Rights Speed) 3
  pub wave_row : HasNumber worked_song (Lefts Wave) 4
  pub no_speed_row : ¬ HasNumber worked_song (Rights Speed) 4
  pub no_row_none : ¬ HasNumber worked_song (Lefts Wave) 0
  pub no_wave_row : ¬ HasNumber worked_song (Lefts Wave) 5
  pub no_instrument : ¬ HasNumber worked_song (Instruments 8) 3
  pub no_frequency_before : ¬ HasNumber worked_song FrequencyLows 4
  pub no_frequency : ¬ HasNumber worked_song FrequencyHighs 98
