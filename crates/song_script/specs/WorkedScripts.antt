-- Texts of songs and of their parts, worked out by hand, and what they must not be.
use Rattle.std.specs.Prelude.{◌≡◌, ◌≢◌, ℕ, List, [], ◌∷◌, ◌++◌, codes, replicate}
use Rattle.song_model.specs.declared.rows.Row.{Row}
use Rattle.song_model.specs.declared.orders.Subtune.{Subtune}
use Rattle.song_model.specs.declared.instruments.Instrument.{Instrument}
use Rattle.song_model.specs.declared.songs.Song.{Song}
use Rattle.song_model.specs.LookUp.{zero_instrument, zero_table_row, void_order}
use Rattle.song_model.specs.Silence.{empty_song, rest_row}
use Rattle.song_script.specs.Statements.{text_of}
use Rattle.song_script.specs.Words.{note_words, readable_text}
use Rattle.song_script.specs.Parts.{text_said, order_said, instrument_said, table_row_said, row_said, pattern_said}
use Rattle.song_script.specs.Shown.{script_of}

-- ---- the empty song

abbrev pub NothingIsShown : Type 0
NothingIsShown =
    script_of empty_song
    ≡ codes "# A song, as the edits that make it of the empty one.\n# wave table\n# pulse table\n# filter table\n"
    ++ codes "# speed table\n"

-- ---- a song with something of each part

-- the first instrument and the second row of the wave table are zero, the second pattern has 64 rests
abbrev pub small_subtune : Subtune
small_subtune = record {
  one = record { entries = 0xE2 ∷ 0 ∷ []; restart = 1 };
  two = record { entries = 0 ∷ []; restart = 0 };
  three = void_order;
}

abbrev pub lead : Instrument
lead = record zero_instrument {
  ad = 0x0A;
  wave = 1;
  first_wave = 9;
  name = codes "lead" ++ replicate 12 0;
}

abbrev pub small_rows : List Row
small_rows = record { note = 0x90; instrument = 3; command = 1; param = 0x0F } ∷ rest_row
    ∷ record { note = 0xBE; instrument = 0; command = 0; param = 0 } ∷ []

abbrev pub small_song : Song
small_song = record empty_song {
  name = codes "Lantern" ++ replicate 25 0;
  copyright = codes "1988" ++ 10 ∷ 0x7F ∷ 0 ∷ 0x78 ∷ replicate 24 0;
  subtunes = small_subtune ∷ [];
  instruments = zero_instrument ∷ lead ∷ [];
  wave = record { left = 0x41; right = 0 } ∷ zero_table_row ∷ record { left = 0xFF; right = 0 } ∷ [];
  speed = record { left = 0; right = 3 } ∷ [];
  patterns = small_rows ∷ replicate 64 rest_row ∷ [];
}

abbrev pub small_text : List ℕ
small_text =
    codes "# A song, as the edits that make it of the empty one.\nsubtune-add\ninstrument 02 00 00\n"
    ++ codes "table-insert 00 01 00 00\ntable-insert 00 01 00 00\ntable-insert 00 01 00 00\n"
    ++ codes "table-insert 03 01 00 00\npattern-count 02\n# name: Lantern\n"
    ++ codes "text 00 4C616E7465726E00000000000000000000000000000000000000000000000000\n"
    ++ codes "# copyright: 1988??\n"
    ++ codes "text 02 313938380A7F0078000000000000000000000000000000000000000000000000\n"
    ++ codes "# subtune 01 channel 01\norder-insert 01 01 00 E2\norder-insert 01 01 01 00\n"
    ++ codes "order-restart 01 01 01\n# subtune 01 channel 02\norder-insert 01 02 00 00\n"
    ++ codes "# subtune 01 channel 03\n# instrument 01\n# instrument 02 lead\ninstrument 02 00 0A\n"
    ++ codes "instrument 02 02 01\ninstrument 02 08 09\n"
    ++ codes "instrument-name 02 6C656164000000000000000000000000\n# wave table\ntable 00 01 41 00\n"
    ++ codes "table 00 03 FF 00\n# pulse table\n# filter table\n# speed table\ntable 03 01 00 03\n"
    ++ codes "# pattern 00\npattern-length 00 03\n# 00  C-4 03 10F\nrow 00 00 90 03 01 0F\n"
    ++ codes "# 02  --- 00 000\nrow 00 02 BE 00 00 00\n# pattern 01\n"

abbrev pub SmallSongIsShown : Type 0
SmallSongIsShown = script_of small_song ≡ small_text

-- ---- rows

abbrev pub row : ℕ → ℕ → ℕ → ℕ → Row
row note instrument command param =
    record { note = note; instrument = instrument; command = command; param = param }

-- a rest isn't written, and is where it has an instrument, a command or a parameter; so are keyoff and keyon
abbrev pub RestsAreLeftOut : Type 0
RestsAreLeftOut = (text_of (row_said 0x1A 0x2B rest_row) ≡ [])
    × (text_of (row_said 0x1A 0x2B rest_row) ≢ codes "# 2B  ... 00 000\nrow 1A 2B BD 00 00 00\n")
    × (text_of (row_said 0x1A 0x2B (row 0xBD 1 0 0)) ≡ codes "# 2B  ... 01 000\nrow 1A 2B BD 01 00 00\n")
    × (text_of (row_said 0x1A 0x2B (row 0xBD 0 0x0C 0)) ≡ codes "# 2B  ... 00 C00\nrow 1A 2B BD 00 0C 00\n")
    × (text_of (row_said 0x1A 0x2B (row 0xBD 0 0 0xEF)) ≡ codes "# 2B  ... 00 0EF\nrow 1A 2B BD 00 00 EF\n")
    × (text_of (row_said 0x1A 0x2B (row 0xBD 0 0 0xEF)) ≢ codes "# 2B  ... 00 0ef\nrow 1a 2b bd 00 00 ef\n")
    × (text_of (row_said 0 0 (row 0xBF 0 0 0)) ≡ codes "# 00  +++ 00 000\nrow 00 00 BF 00 00 00\n")

-- the least and the greatest note, the others at the ends of an octave, and one half tone of each letter
abbrev pub NotesAreNamed : Type 0
NotesAreNamed = (note_words 0x60 ≡ codes "C-0") × (note_words 0x61 ≡ codes "C#0") × (note_words 0x63 ≡ codes "D#0")
    × (note_words 0x64 ≡ codes "E-0") × (note_words 0x65 ≡ codes "F-0") × (note_words 0x67 ≡ codes "G-0")
    × (note_words 0x69 ≡ codes "A-0") × (note_words 0x6B ≡ codes "B-0") × (note_words 0x6C ≡ codes "C-1")
    × (note_words 0xBC ≡ codes "G#7") × (note_words 0xBD ≡ codes "...") × (note_words 0xBE ≡ codes "---")
    × (note_words 0xBF ≡ codes "+++") × (note_words 0xBC ≢ codes "Ab7")

-- only where a pattern hasn't 64 rows is their number written
abbrev pub LengthsAreTold : Type 0
LengthsAreTold = (text_of (pattern_said 0xCF (replicate 64 rest_row)) ≡ codes "# pattern CF\n")
    × (text_of (pattern_said 0xCF (replicate 128 rest_row)) ≡ codes "# pattern CF\npattern-length CF 80\n")
    × (text_of (pattern_said 0 (rest_row ∷ [])) ≡ codes "# pattern 00\npattern-length 00 01\n")

-- ---- the other parts

-- a row of a table with one side that isn't zero is written, and one with none isn't
abbrev pub ZeroRowsAreLeftOut : Type 0
ZeroRowsAreLeftOut = (text_of (table_row_said 2 0xFF zero_table_row) ≡ [])
    × (text_of (table_row_said 2 0xFF zero_table_row) ≢ codes "table 02 FF 00 00\n")
    × (text_of (table_row_said 2 0xFF (record { left = 0; right = 1 })) ≡ codes "table 02 FF 00 01\n")
    × (text_of (table_row_said 2 0xFF (record { left = 0x80; right = 0 })) ≡ codes "table 02 FF 80 00\n")

-- each of the nine fields under its number; of a zero instrument there is the comment alone
abbrev pub FieldsAreNumbered : Type 0
FieldsAreNumbered =
    (text_of (instrument_said 0x3F (record {
      ad = 1;
      sr = 2;
      wave = 3;
      pulse = 4;
      filter = 5;
      vibrato = 6;
      vibrato_delay = 7;
      gate_timer = 8;
      first_wave = 9;
      name = replicate 16 0;
    }))
    ≡ codes "# instrument 3F\ninstrument 3F 00 01\ninstrument 3F 01 02\ninstrument 3F 02 03\ninstrument 3F 03 04\n"
    ++ codes "instrument 3F 04 05\ninstrument 3F 05 06\ninstrument 3F 06 07\ninstrument 3F 07 08\n"
    ++ codes "instrument 3F 08 09\n")
    × (text_of (instrument_said 1 zero_instrument) ≡ codes "# instrument 01\n")
    × (text_of (instrument_said 1 zero_instrument) ≢ codes "# instrument 01\ninstrument 01 00 00\n")

-- an orderlist begins at place 0, and a restart position 0 isn't written
abbrev pub OrdersAreCounted : Type 0
OrdersAreCounted =
    (text_of (order_said 0x20 3 (record { entries = 0xCF ∷ 0xFE ∷ []; restart = 0xFF }))
    ≡ codes "# subtune 20 channel 03\norder-insert 20 03 00 CF\norder-insert 20 03 01 FE\norder-restart 20 03 FF\n")
    × (text_of (order_said 1 2 void_order) ≡ codes "# subtune 01 channel 02\n")
    × (text_of (order_said 1 2 void_order) ≢ codes "# subtune 01 channel 02\norder-restart 01 02 00\n")

-- what is read of a text ends before its first zero, and has no line feed, no return and nothing past $7E
abbrev pub TextsAreReadable : Type 0
TextsAreReadable = (readable_text (0x20 ∷ 0x7E ∷ 0x1F ∷ 0x7F ∷ 10 ∷ 13 ∷ 0xFF ∷ 0 ∷ 0x41
    ∷ []) ≡ codes " ~?????")
    × (readable_text (0 ∷ 0x41 ∷ []) ≡ []) × (readable_text (0x41 ∷ []) ≡ codes "A")
    × (text_of (text_said 1 (codes "author") (replicate 32 0)) ≡ [])
    × (text_of (text_said 1 (codes "author") (replicate 31 0 ++ 1 ∷ []))
    ≡ codes "# author: \ntext 01 0000000000000000000000000000000000000000000000000000000000000001\n")
