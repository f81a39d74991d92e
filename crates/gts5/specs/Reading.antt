-- How the reader goes through a text, piece by piece from left to right: each piece gives its part of the song and
-- the bytes after it, or the fault that stops the reading. That this is what `Spells` and `fault_of` say is proved.
use Rattle.std.specs.Prelude.{ℕ, zero, suc, ◌+◌, ◌*◌, Bool, true, false, nat_lt, ◌==◌}
use Rattle.std.specs.Prelude.{if◌then◌else◌, List, [], ◌∷◌, length, take, drop, slice_index, Result, Ok}
use Rattle.std.specs.Prelude.{Err}
use Rattle.song_model.specs.declared.rows.Row.{Row}
use Rattle.song_model.specs.declared.orders.Order.{Order}
use Rattle.song_model.specs.declared.orders.Subtune.{Subtune}
use Rattle.song_model.specs.declared.instruments.Instrument.{Instrument}
use Rattle.song_model.specs.declared.tables.TableRow.{TableRow}
use Rattle.song_model.specs.declared.songs.Song.{Song}
use Rattle.gts5.specs.declared.faults.SongFault.{SongFault}
use Rattle.gts5.specs.declared.faults.SongFault.TheVariants.{Truncated, OutOfLimit, BadOrder, BadRow}
use Rattle.gts5.specs.Faults.{◌>>=◌, offset_of, after_magic, row_of, has_ranges}
use Rattle.gts5.specs.declared.tables.Tables.{Tables}
use Rattle.gts5.specs.declared.texts.Texts.{Texts}

-- ---- bytes: of a file of `total` bytes these are left

-- n bytes; where one of them is missing the file is truncated, at its length
unfoldable pub bytes_at : ℕ → ℕ → List ℕ → Result (List ℕ × List ℕ) SongFault
bytes_at total n bytes = if nat_lt (length bytes) n then Err (Truncated total) else Ok (take n bytes, drop n bytes)

-- a count that may be any byte
unfoldable pub byte_at : ℕ → List ℕ → Result (ℕ × List ℕ) SongFault
byte_at total [] = Err (Truncated total)
byte_at total (byte ∷ rest) = Ok (byte, rest)

-- a count with a limit: above it, the count byte is the fault's place
unfoldable pub count_at : ℕ → ℕ → List ℕ → Result (ℕ × List ℕ) SongFault
count_at total limit bytes = do
  count ← byte_at total bytes
  if nat_lt limit count.0 then Err (OutOfLimit (offset_of total bytes)) else Ok count

-- n pieces of one kind
abbrev pub each_at : {X : Type 0} → (List ℕ → Result (X × List ℕ) SongFault) → ℕ → List ℕ →
    Result (List X × List ℕ) SongFault
each_at piece_at zero bytes = Ok ([], bytes)
each_at piece_at (suc n) bytes = do
  first ← piece_at bytes
  others ← each_at piece_at n first.1
  Ok (first.0 ∷ others.0, others.1)

-- ---- the texts

-- 32 bytes each
unfoldable pub texts_at : ℕ → List ℕ → Result (Texts × List ℕ) SongFault
texts_at total bytes = do
  name ← bytes_at total 32 bytes
  author ← bytes_at total 32 name.1
  copyright ← bytes_at total 32 author.1
  Ok (record { name = name.0; author = author.0; copyright = copyright.0 }, copyright.1)

-- ---- orderlists

-- the place of the first $FF, or the length where there is none
abbrev pub endmark_of : List ℕ → ℕ
endmark_of [] = 0
endmark_of (byte ∷ bytes) = if byte == 0xFF then 0 else endmark_of bytes + 1

-- a byte n, and n + 1 bytes; the bytes before the first $FF are the entries, the byte after it is the restart
-- position; where the first n bytes have no $FF, the byte n is the fault's place
unfoldable pub order_at : ℕ → List ℕ → Result (Order × List ℕ) SongFault
order_at total bytes = do
  n ← byte_at total bytes
  piece ← bytes_at total (n.0 + 1) n.1
  if nat_lt (endmark_of piece.0) n.0
      then Ok (
        record { entries = take (endmark_of piece.0) piece.0; restart = slice_index piece.0 (endmark_of piece.0 + 1) },
        piece.1,
      )
      else Err (BadOrder (offset_of total bytes))

unfoldable pub subtune_at : ℕ → List ℕ → Result (Subtune × List ℕ) SongFault
subtune_at total bytes = do
  one ← order_at total bytes
  two ← order_at total one.1
  three ← order_at total two.1
  Ok (record { one = one.0; two = two.0; three = three.0 }, three.1)

unfoldable pub subtunes_at : ℕ → List ℕ → Result (List Subtune × List ℕ) SongFault
subtunes_at total bytes = do
  count ← count_at total 32 bytes
  each_at (subtune_at total) count.0 count.1

-- ---- instruments

-- nine numbers, and a name of 16 bytes
unfoldable pub instrument_at : ℕ → List ℕ → Result (Instrument × List ℕ) SongFault
instrument_at total bytes = do
  fields ← bytes_at total 9 bytes
  name ← bytes_at total 16 fields.1
  Ok (
    record {
      ad = slice_index fields.0 0;
      sr = slice_index fields.0 1;
      wave = slice_index fields.0 2;
      pulse = slice_index fields.0 3;
      filter = slice_index fields.0 4;
      vibrato = slice_index fields.0 5;
      vibrato_delay = slice_index fields.0 6;
      gate_timer = slice_index fields.0 7;
      first_wave = slice_index fields.0 8;
      name = name.0;
    },
    name.1,
  )

unfoldable pub instruments_at : ℕ → List ℕ → Result (List Instrument × List ℕ) SongFault
instruments_at total bytes = do
  count ← count_at total 63 bytes
  each_at (instrument_at total) count.0 count.1

-- ---- tables

-- rows of these left and right sides
abbrev pub table_rows : List ℕ → List ℕ → List TableRow
table_rows [] rights = []
table_rows (left ∷ lefts) [] = []
table_rows (left ∷ lefts) (right ∷ rights) = record { left = left; right = right } ∷ table_rows lefts rights

-- a byte n, n left sides, n right sides
unfoldable pub table_at : ℕ → List ℕ → Result (List TableRow × List ℕ) SongFault
table_at total bytes = do
  n ← byte_at total bytes
  lefts ← bytes_at total n.0 n.1
  rights ← bytes_at total n.0 lefts.1
  Ok (table_rows lefts.0 rights.0, rights.1)

unfoldable pub tables_at : ℕ → List ℕ → Result (Tables × List ℕ) SongFault
tables_at total bytes = do
  wave ← table_at total bytes
  pulse ← table_at total wave.1
  filter ← table_at total pulse.1
  speed ← table_at total filter.1
  Ok (record { wave = wave.0; pulse = pulse.0; filter = filter.0; speed = speed.0 }, speed.1)

-- ---- patterns

-- m rows
abbrev pub rows_of : ℕ → List ℕ → List Row
rows_of zero bytes = []
rows_of (suc m) bytes = row_of bytes ∷ rows_of m (drop 4 bytes)

-- row i of a pattern whose count stands at the place `at`: is it the end?
unfoldable pub ends_at : ℕ → ℕ → Row → Result Bool SongFault
ends_at at i row =
    if row.note == 0xFF then (if i == 0 then Err (BadRow (at + 1)) else Ok true)
    else if i == 128 then Err (OutOfLimit at)
    else if has_ranges row then Ok false
    else Err (BadRow (at + 1 + 4 * i))

-- the rows from row i on, up to the end row; where there is none, the count's place is the fault's
abbrev pub cut_at : ℕ → ℕ → List Row → Result (List Row) SongFault
cut_at at i [] = Err (BadRow at)
cut_at at i (row ∷ rows) = do
  ends ← ends_at at i row
  if ends then Ok [] else cut_at at (i + 1) rows >>= λ others. Ok (row ∷ others)

-- a byte m, and m rows
unfoldable pub pattern_at : ℕ → List ℕ → Result (List Row × List ℕ) SongFault
pattern_at total bytes = do
  m ← byte_at total bytes
  piece ← bytes_at total (4 * m.0) m.1
  rows ← cut_at (offset_of total bytes) 0 (rows_of m.0 piece.0)
  Ok (rows, piece.1)

unfoldable pub patterns_at : ℕ → List ℕ → Result (List (List Row) × List ℕ) SongFault
patterns_at total bytes = do
  count ← count_at total 208 bytes
  each_at (pattern_at total) count.0 count.1

-- ---- the song

-- the bytes after the last pattern are ignored
unfoldable pub song_of : List ℕ → Result Song SongFault
song_of bytes = do
  rest ← after_magic bytes
  texts ← texts_at (length bytes) rest
  subtunes ← subtunes_at (length bytes) texts.1
  instruments ← instruments_at (length bytes) subtunes.1
  tables ← tables_at (length bytes) instruments.1
  patterns ← patterns_at (length bytes) tables.1
  Ok (record {
    name = texts.0.name;
    author = texts.0.author;
    copyright = texts.0.copyright;
    subtunes = subtunes.0;
    instruments = instruments.0;
    wave = tables.0.wave;
    pulse = tables.0.pulse;
    filter = tables.0.filter;
    speed = tables.0.speed;
    patterns = patterns.0;
  })
