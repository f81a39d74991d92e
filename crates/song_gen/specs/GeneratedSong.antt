-- The song that is made from a number: four instruments, a hundred patterns and eight subtunes, with programs of every
-- kind. What is drawn is drawn in this order: instrument by instrument, row by row, orderlist by orderlist. This is this
-- project's own choice of a large song.
use Rattle.std.specs.Prelude.{ℕ, zero, suc, ◌+◌, ◌-◌, ◌*◌, ◌%◌, ◌==◌, ◌||◌}
use Rattle.std.specs.Prelude.{if◌then◌else◌, List, [], ◌∷◌, map, replicate}
use Rattle.std.specs.List.{range_with_len}
use Rattle.song_model.specs.declared.rows.Row.{Row}
use Rattle.song_model.specs.declared.orders.Order.{Order}
use Rattle.song_model.specs.declared.orders.Subtune.{Subtune}
use Rattle.song_model.specs.declared.instruments.Instrument.{Instrument}
use Rattle.song_model.specs.declared.tables.TableRow.{TableRow}
use Rattle.song_model.specs.declared.songs.Song.{Song}
use Rattle.song_model.specs.Silence.{empty_song, rest_row}
use Rattle.song_gen.specs.Draws.{after, draw}

-- ---- the tables

abbrev pub row : ℕ → ℕ → TableRow
row left right = record { left = left; right = right }

-- a chord, again and again; and a drum, whose last row but one sets attack and decay
abbrev pub wave_rows : List TableRow
wave_rows = row 0x21 0x00 ∷ row 0x41 0x00 ∷ row 0x41 0x04 ∷ row 0x41 0x07 ∷ row 0xFF 0x02
    ∷ row 0x81 0xC0 ∷ row 0x11 0x80 ∷ row 0xF5 0x29 ∷ row 0xFF 0x00 ∷ []

-- the pulse width goes up and down
abbrev pub pulse_rows : List TableRow
pulse_rows = row 0x88 0x00 ∷ row 0x20 0x10 ∷ row 0x20 0xF0 ∷ row 0xFF 0x02 ∷ []

-- and so does the cutoff of the low pass filter
abbrev pub filter_rows : List TableRow
filter_rows = row 0x90 0xF1 ∷ row 0x00 0x40 ∷ row 0x30 0x02 ∷ row 0x30 0xFE ∷ row 0xFF 0x03 ∷ []

-- a slide, a vibrato, and one whose depth depends on the note
abbrev pub speed_rows : List TableRow
speed_rows = row 0x00 0x40 ∷ row 0x03 0x20 ∷ row 0x83 0x03 ∷ []

-- ---- instruments

-- instrument n, with what is drawn from a number: attack and decay, sustain and release, the vibrato's delay
abbrev pub instrument_from : ℕ → ℕ → Instrument
instrument_from y n = record {
  ad = draw y 0 256;
  sr = draw y 1 256;
  wave = if n % 2 == 1 then 1 else 6;
  pulse = 1;
  filter = if n == 1 then 1 else 0;
  vibrato = n - 1;
  vibrato_delay = draw y 2 16;
  gate_timer = 2;
  first_wave = 0x09;
  name = replicate 16 0;
}

-- the four instruments; three draws are each one's
unfoldable pub instruments_from : ℕ → List Instrument
instruments_from y = map (λ k. instrument_from (after y (3 * k)) (k + 1)) (range_with_len 0 4)

-- ---- patterns

abbrev pub keyoff_row : Row
keyoff_row = record { note = 0xBE; instrument = 0; command = 0; param = 0 }

-- the row that is drawn from a number: by the first draw a rest, a note with an instrument, a rest with a slide or a
-- vibrato, or keyoff
unfoldable pub row_from : ℕ → Row
row_from y =
    if draw y 0 4 == 0 then rest_row
    else if draw y 0 4 == 1
    then record { note = 0x78 + draw y 1 48; instrument = 1 + draw y 2 4; command = 0; param = 0 }
    else if draw y 0 4 == 2
    then record { note = 0xBD; instrument = 0; command = 1 + draw y 1 4; param = 1 + draw y 2 3 }
    else keyoff_row

-- the number that stands behind the draws of that row
unfoldable pub behind_row : ℕ → ℕ
behind_row y = after y (if (draw y 0 4 == 1) || (draw y 0 4 == 2) then 3 else 1)

-- the number that stands behind so many rows
unfoldable pub behind_rows : ℕ → ℕ → ℕ
behind_rows y zero = y
behind_rows y (suc j) = behind_row (behind_rows y j)

-- the pattern that is drawn from a number: 32 rows
unfoldable pub pattern_from : ℕ → List Row
pattern_from y = map (λ j. row_from (behind_rows y j)) (range_with_len 0 32)

-- the hundred patterns, each behind the rows of those before it
unfoldable pub patterns_from : ℕ → List (List Row)
patterns_from y = map (λ p. pattern_from (behind_rows y (32 * p))) (range_with_len 0 100)

-- ---- subtunes

-- the orderlist that is drawn from a number: a transpose, 48 patterns, and the restart position
unfoldable pub order_from : ℕ → Order
order_from y = record {
  entries = (0xF0 + draw y 0 8) ∷ map (λ n. draw y n 100) (range_with_len 1 48);
  restart = draw y 49 49;
}

-- the subtune that is drawn from a number, channel by channel; 50 draws are each orderlist's
abbrev pub subtune_from : ℕ → Subtune
subtune_from y = record { one = order_from y; two = order_from (after y 50); three = order_from (after y 100) }

-- the eight subtunes; 150 draws are each one's
unfoldable pub subtunes_from : ℕ → List Subtune
subtunes_from y = map (λ s. subtune_from (after y (150 * s))) (range_with_len 0 8)

-- ---- the song

-- the numbers that stand behind the draws of the instruments, and behind those of the patterns
abbrev pub behind_instruments : ℕ → ℕ
behind_instruments x = after x 12

abbrev pub behind_patterns : ℕ → ℕ
behind_patterns x = behind_rows (behind_instruments x) 3200

-- the song of the number x, with zero texts
unfoldable pub generated_song : ℕ → Song
generated_song x = record empty_song {
  subtunes = subtunes_from (behind_patterns x);
  instruments = instruments_from x;
  wave = wave_rows;
  pulse = pulse_rows;
  filter = filter_rows;
  speed = speed_rows;
  patterns = patterns_from (behind_instruments x);
}
