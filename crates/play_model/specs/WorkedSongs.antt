-- Small songs whose frames were worked out by hand.
use Rattle.std.specs.Prelude.{ℕ, zero, suc, List, [], ◌∷◌, ◌++◌, replicate}
use Rattle.song_model.specs.declared.rows.Row.{Row}
use Rattle.song_model.specs.declared.orders.Order.{Order}
use Rattle.song_model.specs.declared.orders.Subtune.{Subtune}
use Rattle.song_model.specs.declared.instruments.Instrument.{Instrument}
use Rattle.song_model.specs.declared.tables.TableRow.{TableRow}
use Rattle.song_model.specs.declared.songs.Song.{Song}
use Rattle.song_model.specs.Silence.{empty_song, rest_row}

abbrev pub order : List ℕ → Order
order entries = record { entries = entries; restart = 0 }

abbrev pub subtune : List ℕ → List ℕ → List ℕ → Subtune
subtune one two three = record { one = order one; two = order two; three = order three }

abbrev pub row : ℕ → ℕ → ℕ → ℕ → Row
row note instrument command param =
    record { note = note; instrument = instrument; command = command; param = param }

abbrev pub sides : ℕ → ℕ → TableRow
sides left right = record { left = left; right = right }

-- attack 0, decay 9, sustain 10, release 0; wave and pulse program 1; gate off two frames before a note
abbrev pub plucked : Instrument
plucked = record {
  ad = 0x09;
  sr = 0xA0;
  wave = 1;
  pulse = 1;
  filter = 0;
  vibrato = 0;
  vibrato_delay = 0;
  gate_timer = 2;
  first_wave = 0x09;
  name = replicate 16 0;
}

abbrev pub rests : ℕ → List Row
rests n = replicate n rest_row

-- voice 1 plays one note and a keyoff, again and again; voices 2 and 3 rest
abbrev pub one_note : Song
one_note = record empty_song {
  subtunes = subtune (0 ∷ []) (1 ∷ []) (1 ∷ []) ∷ [];
  instruments = plucked ∷ [];
  wave = sides 0x41 0 ∷ sides 0xFF 0 ∷ [];
  pulse = sides 0x88 0 ∷ sides 0xFF 0 ∷ [];
  patterns = (row 0x90 1 0 0 ∷ row 0xBE 0 0 0 ∷ []) ∷ rests 1 ∷ [];
}

-- the same song with other rows in pattern 0
abbrev pub with_rows : List Row → Song → Song
with_rows rows song = record song { patterns = rows ∷ rests 1 ∷ [] }

-- the same song with another instrument 1
abbrev pub with_instrument : Instrument → Song → Song
with_instrument instrument song = record song { instruments = instrument ∷ [] }

abbrev pub with_gate_timer : ℕ → Song → Song
with_gate_timer timer song = with_instrument (record plucked { gate_timer = timer }) song

-- without pulse
abbrev pub plain : Instrument
plain = record plucked { pulse = 0 }

abbrev pub plain_note : Song
plain_note = record (with_instrument plain one_note) { pulse = [] }

-- the lowest note, 16 half tones lower
abbrev pub low_note : Song
low_note = record (with_rows (row 0x60 1 0 0 ∷ row 0xBE 0 0 0 ∷ []) one_note) {
  subtunes = subtune (0xE0 ∷ 0 ∷ []) (1 ∷ []) (1 ∷ []) ∷ [];
}

-- the highest note, whose vibrato has the depth of its half tone and wraps
abbrev pub wrapping_note : Song
wrapping_note = record (with_rows (row 0x90 1 0 0 ∷ rests 1) one_note) {
  instruments = record plucked { pulse = 0; vibrato = 1; vibrato_delay = 1 } ∷ [];
  wave = sides 0x11 0xDF ∷ sides 0xFF 0 ∷ [];
  pulse = [];
  speed = sides 0x80 0 ∷ [];
}

-- a slide to a note two half tones up, and that note tied
abbrev pub sliding_note : Song
sliding_note = record (with_rows (row 0x90 1 0 0 ∷ row 0x92 0 3 1 ∷ row 0x92 0 3 0 ∷ []) one_note) {
  speed = sides 0x10 0 ∷ [];
}

-- a note two half tones up that is tied at once
abbrev pub tied_note : Song
tied_note = with_rows (row 0x90 1 0 0 ∷ row 0x92 0 3 0 ∷ []) one_note

-- funk values of 1 less than 0 and 1 frames
abbrev pub funk_song : Song
funk_song = record (with_rows (row 0xBD 0 0xE 1 ∷ row 0x90 1 0 0 ∷ []) one_note) {
  speed = sides 0 1 ∷ [];
}

-- the same song with funk values of 1 less than this number and 3 frames
abbrev pub long_funk_song : ℕ → Song
long_funk_song frames = record funk_song { speed = sides frames 4 ∷ [] }

-- a row after the note that goes up by $10 in each frame
abbrev pub rising_note : Song
rising_note = record (with_rows (row 0x90 1 0 0 ∷ row 0xBD 0 1 1 ∷ []) one_note) {
  speed = sides 0 0x10 ∷ [];
}

-- a pulse program that goes up by $10 in each frame
abbrev pub rising_pulse : Song
rising_pulse = record one_note { pulse = sides 0x88 0 ∷ sides 0x20 0x10 ∷ sides 0xFF 2 ∷ [] }

-- a note and two rests, and a note between rests
abbrev pub three_rows : List Row
three_rows = row 0x90 1 0 0 ∷ rests 2

abbrev pub late_note : List Row
late_note = rests 2 ++ row 0x90 1 0 0 ∷ rests 1

-- the note and then two rests, in patterns of one row, under that pulse program
abbrev pub in_turn : Song
in_turn = record (with_rows (row 0x90 1 0 0 ∷ []) rising_pulse) {
  subtunes = subtune (0 ∷ 1 ∷ 1 ∷ []) (1 ∷ []) (1 ∷ []) ∷ [];
}

-- a note of an instrument whose gateoff timer is above the tempo, so that no other row is fetched
abbrev pub never_fetched : Song
never_fetched = record (with_rows (row 0x90 2 0 0 ∷ []) rising_pulse) {
  instruments = plucked ∷ record plucked { gate_timer = 0x3F } ∷ [];
}

-- the note and a rest in turn, in patterns of one row, at tempo 3
abbrev pub quick_turns : Song
quick_turns = record (with_rows (row 0x90 1 0xF 3 ∷ []) rising_pulse) {
  subtunes = subtune (0 ∷ 1 ∷ []) (1 ∷ []) (1 ∷ []) ∷ [];
}

-- funk values of 0 and 5
abbrev pub at_once_tempo : Song
at_once_tempo = record (with_rows (row 0x90 1 0xE 1 ∷ rests 1) rising_pulse) { speed = sides 1 6 ∷ [] }

-- a pulse program that goes up for five frames and stops
abbrev pub short_pulse : Song
short_pulse = record one_note { pulse = sides 0x88 0 ∷ sides 5 0x10 ∷ sides 0xFF 0 ∷ [] }

-- one that goes up for four frames, sets the width anew and goes up
abbrev pub set_pulse : Song
set_pulse = record one_note {
  pulse = sides 0x88 0 ∷ sides 4 0x10 ∷ sides 0x8A 0 ∷ sides 0x20 0x10 ∷ sides 0xFF 4 ∷ [];
}

-- a rest after the note
abbrev pub long_note : Song
long_note = with_rows (row 0x90 1 0 0 ∷ rests 1) one_note

-- a wave program that waits 15 frames and goes an octave up, begun anew by a row
abbrev pub waiting_wave : Song
waiting_wave =
    record (with_rows (row 0x90 1 0 0 ∷ rests 3 ++ row 0xBD 0 8 1 ∷ rests 3) plain_note) {
      wave = sides 0x11 0 ∷ sides 0x0F 0x0C ∷ sides 0xFF 0 ∷ [];
    }

-- a row that changes the instrument without a note: its vibrato pointer goes with the first one's delay
abbrev pub other_vibrato : ℕ → Song
other_vibrato delay = record (with_rows (row 0x90 1 0 0 ∷ row 0xBD 2 0 0 ∷ []) plain_note) {
  instruments = record plain { vibrato_delay = delay }
      ∷ record plain { ad = 0; sr = 0; wave = 0; vibrato = 1; first_wave = 0 } ∷ [];
  speed = sides 0x03 0x10 ∷ [];
}

-- a note on every eighth row of 64
abbrev pub every_eighth : ℕ → ℕ → List Row
every_eighth instrument zero = []
every_eighth instrument (suc n) = (row 0x90 instrument 0 0 ∷ rests 7) ++ every_eighth instrument n

-- a song as a musician keeps it: three instruments, two subtunes, a filter, a vibrato
abbrev pub small_song : Song
small_song = record empty_song {
  subtunes =
      subtune (0 ∷ []) (1 ∷ []) (2 ∷ []) ∷ subtune (0xF2 ∷ 0 ∷ []) (0xD1 ∷ 3 ∷ 1 ∷ []) (3 ∷ [])
      ∷ [];
  instruments = plucked
      ∷ record plucked { ad = 0x00; sr = 0xF9; wave = 3; pulse = 0; vibrato = 1; vibrato_delay = 8 }
      ∷ record plucked { ad = 0x0A; sr = 0x88; wave = 3; pulse = 0; filter = 1 } ∷ [];
  wave =
      sides 0x41 0 ∷ sides 0xFF 0 ∷ sides 0x21 0 ∷ sides 0x21 4 ∷ sides 0x21 7 ∷ sides 0xFF 3 ∷ [];
  pulse = sides 0x88 0 ∷ sides 0x40 0x20 ∷ sides 0x40 0xE0 ∷ sides 0xFF 2 ∷ [];
  filter = sides 0x90 0xF1 ∷ sides 0 0x20 ∷ sides 0x40 1 ∷ sides 0xFF 0 ∷ [];
  speed = sides 4 0x30 ∷ [];
  patterns = every_eighth 1 8 ∷ every_eighth 2 8 ∷ every_eighth 3 8 ∷ rests 64 ∷ [];
}
