-- Small songs, written out by hand, and what is said of edits of them.
use Rattle.std.specs.Prelude.{◌≡◌, ℕ, List, [], ◌∷◌, map, length, replicate, Ok, Err}
use Rattle.song_model.specs.declared.rows.Row.{Row}
use Rattle.song_model.specs.declared.orders.Order.{Order}
use Rattle.song_model.specs.declared.instruments.Instrument.{Instrument}
use Rattle.song_model.specs.declared.tables.TableRow.{TableRow}
use Rattle.song_model.specs.declared.songs.Song.{Song}
use Rattle.song_model.specs.LookUp.{zero_instrument, void_order, void_subtune}
use Rattle.song_model.specs.Silence.{empty_song, rest_row}
use Rattle.edit_ops.specs.declared.edits.Edit.{Edit}
use Rattle.edit_ops.specs.declared.edits.EditFault.{EditFault}
use Rattle.edit_ops.specs.Edits.{edited}

-- ---- what is said

-- each of these edits of the song is refused for this reason
abbrev pub AreRefused : EditFault → Song → List Edit → Type 0
AreRefused fault song edits = map (edited song) edits ≡ replicate (length edits) (Err fault)

-- each of these edits makes of the song the one beside it
abbrev pub Make : Song → List (Edit × Song) → Type 0
Make song cases = map (λ case. edited song case.0) cases ≡ map (λ case. Ok case.1) cases

-- ---- parts of songs

abbrev pub sides : ℕ → ℕ → TableRow
sides left right = record { left = left; right = right }

abbrev pub rest_with : ℕ → ℕ → Row
rest_with command param = record { note = 0xBD; instrument = 0; command = command; param = param }

abbrev pub note_row : ℕ → Row
note_row note = record { note = note; instrument = 1; command = 0; param = 0 }

abbrev pub row_of : ℕ → ℕ → ℕ → ℕ → Row
row_of note instrument command param =
    record { note = note; instrument = instrument; command = command; param = param }

abbrev pub order_with : List ℕ → ℕ → Order
order_with entries restart = record { entries = entries; restart = restart }

-- an instrument with these pointers into the wave, pulse, filter and speed table
abbrev pub pointing : ℕ → ℕ → ℕ → ℕ → Instrument
pointing wave pulse filter vibrato =
    record zero_instrument { wave = wave; pulse = pulse; filter = filter; vibrato = vibrato }

-- ---- songs

-- The wave table has a waveform, the commands that point into the other tables, and a jump to row 2; the pulse and
-- the filter table have a jump each; a row of the speed table looks like one. The commands 8, 9, $A, 1 and $E of
-- the pattern have parameters that point, 0 has one that doesn't.
abbrev pub pointer_song : Song
pointer_song = record empty_song {
  instruments = pointing 2 1 1 2 ∷ pointing 1 2 2 1 ∷ [];
  wave = sides 0x41 3 ∷ sides 0xF9 2 ∷ sides 0xFA 2 ∷ sides 0xF4 2 ∷ sides 0xFF 2 ∷ [];
  pulse = sides 0x88 2 ∷ sides 0xFF 2 ∷ [];
  filter = sides 0x90 2 ∷ sides 0xFF 2 ∷ [];
  speed = sides 0xFF 2 ∷ sides 3 2 ∷ [];
  patterns = (rest_with 8 2 ∷ rest_with 9 2 ∷ rest_with 0xA 2 ∷ rest_with 1 2 ∷ rest_with 0xE 2
      ∷ rest_with 0 2 ∷ []) ∷ [];
}

-- a song whose only pattern has these rows
abbrev pub pattern_song : List Row → Song
pattern_song rows = record empty_song { patterns = rows ∷ [] }

-- whose only pattern has these notes
abbrev pub notes_song : List ℕ → Song
notes_song notes = pattern_song (map note_row notes)

-- of two subtunes, the second with this orderlist between two others
abbrev pub order_song : Order → Song
order_song order = record empty_song {
  subtunes = void_subtune ∷ record { one = order_with (9 ∷ []) 0; two = order; three = order_with (8 ∷ []) 0 } ∷ [];
}

-- with these instruments
abbrev pub instruments_song : List Instrument → Song
instruments_song instruments = record empty_song { instruments = instruments }

-- with a wave, pulse, filter and speed table whose rows have these left sides, and right sides 0
abbrev pub tables_song : List ℕ → List ℕ → List ℕ → List ℕ → Song
tables_song wave pulse filter speed = record empty_song {
  wave = map (λ left. sides left 0) wave;
  pulse = map (λ left. sides left 0) pulse;
  filter = map (λ left. sides left 0) filter;
  speed = map (λ left. sides left 0) speed;
}

-- Two patterns, of two rows and of one. Two subtunes, the first with orderlists of two entries, of one and of none.
-- One instrument. Two rows in the wave table, one in the pulse and the speed table, none in the filter table.
abbrev pub small_song : Song
small_song = record empty_song {
  subtunes =
      record { one = order_with (1 ∷ 0 ∷ []) 1; two = order_with (0 ∷ []) 0; three = void_order } ∷ void_subtune ∷ [];
  instruments = pointing 1 1 0 1 ∷ [];
  wave = sides 0x21 0 ∷ sides 0xFF 1 ∷ [];
  pulse = sides 0x88 0 ∷ [];
  speed = sides 3 0x20 ∷ [];
  patterns = (note_row 0x60 ∷ rest_row ∷ []) ∷ (note_row 0xBC ∷ []) ∷ [];
}
