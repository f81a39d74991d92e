-- The faults of a text of the format GTS5, as the GoatTracker 2 readme has it. The text is read piece by piece in
-- file order: each definition gives the bytes that follow its piece, or the fault that stops the reading.
use Rattle.std.specs.Prelude.{ℕ, zero, suc, ◌+◌, ◌-◌, ◌*◌, Bool, ◌&&◌, nat_lt, nat_le, ◌==◌}
use Rattle.std.specs.Prelude.{if◌then◌else◌, List, [], ◌∷◌, length, take, drop, slice_index, codes, Option}
use Rattle.std.specs.Prelude.{Some, None, Result, Ok, Err}
use Rattle.std.specs.List.{list_any}
use Rattle.std.specs.Str.{bytes_eq}
use Rattle.song_model.specs.declared.rows.Row.{Row}
use Rattle.gts5.specs.declared.faults.SongFault.{SongFault}
use Rattle.gts5.specs.declared.faults.SongFault.TheVariants.{NotGts5, Truncated, OutOfLimit, BadOrder, BadRow}

-- the next piece is read where this one has no fault
infixl 10 ◌>>=◌
abbrev pub ◌>>=◌ : {A B : Type 0} → Result A SongFault → (A → Result B SongFault) → Result B SongFault
(Ok x) >>= f = f x
(Err fault) >>= f = Err fault

-- where the bytes that are left of a file of `total` bytes begin
abbrev pub offset_of : ℕ → List ℕ → ℕ
offset_of total bytes = total - length bytes

-- a file begins with GTS5
unfoldable pub after_magic : List ℕ → Result (List ℕ) SongFault
after_magic bytes = if bytes_eq (take 4 bytes) (codes "GTS5") then Ok (drop 4 bytes) else Err NotGts5

-- n bytes; where one of them is missing the file is truncated, at its length
unfoldable pub after_bytes : ℕ → ℕ → List ℕ → Result (List ℕ) SongFault
after_bytes total n bytes = if nat_lt (length bytes) n then Err (Truncated total) else Ok (drop n bytes)

-- n pieces of one kind
abbrev pub after_each : (List ℕ → Result (List ℕ) SongFault) → ℕ → List ℕ → Result (List ℕ) SongFault
after_each after_piece zero bytes = Ok bytes
after_each after_piece (suc n) bytes = do
  rest ← after_piece bytes
  after_each after_piece n rest

-- a count byte n with a limit, and what follows n pieces; above the limit the count byte is the fault's place
unfoldable pub after_counted : ℕ → ℕ → (ℕ → List ℕ → Result (List ℕ) SongFault) → List ℕ →
    Result (List ℕ) SongFault
after_counted total limit after_pieces [] = Err (Truncated total)
after_counted total limit after_pieces (n ∷ rest) =
    if nat_lt limit n then Err (OutOfLimit (offset_of total (n ∷ rest))) else after_pieces n rest

-- an orderlist: a byte n, and n + 1 bytes; where none of the first n is $FF, the byte n is the fault's place
unfoldable pub after_order : ℕ → List ℕ → Result (List ℕ) SongFault
after_order total [] = Err (Truncated total)
after_order total (n ∷ rest) = do
  after ← after_bytes total (n + 1) rest
  if list_any (λ byte. byte == 0xFF) (take n rest) then Ok after else Err (BadOrder (offset_of total (n ∷ rest)))

-- a table: a byte n, n left sides and n right sides
unfoldable pub after_table : ℕ → List ℕ → Result (List ℕ) SongFault
after_table total [] = Err (Truncated total)
after_table total (n ∷ rest) = after_bytes total (2 * n) rest

-- the row at the front: four bytes
abbrev pub row_of : List ℕ → Row
row_of bytes = record {
  note = slice_index bytes 0;
  instrument = slice_index bytes 1;
  command = slice_index bytes 2;
  param = slice_index bytes 3;
}

-- note, instrument and command are in their ranges
abbrev pub has_ranges : Row → Bool
has_ranges row = nat_le 0x60 row.note && nat_le row.note 0xBF && nat_le row.instrument 0x3F && nat_le row.command 0x0F

-- what follows a pattern whose count stands at the place `at`, by its rows from row i on, of which this number is left;
-- for each row the first case that holds decides
abbrev pub after_rows : ℕ → ℕ → ℕ → List ℕ → List ℕ → Result (List ℕ) SongFault
after_rows at i zero rows after = Err (BadRow at)
after_rows at i (suc left) rows after =
    if (row_of rows).note == 0xFF then (if i == 0 then Err (BadRow (at + 1)) else Ok after)
    else if i == 128 then Err (OutOfLimit at)
    else if has_ranges (row_of rows) then after_rows at (i + 1) left (drop 4 rows) after
    else Err (BadRow (at + 1 + 4 * i))

-- a pattern: a byte m, and m rows of four bytes
unfoldable pub after_pattern : ℕ → List ℕ → Result (List ℕ) SongFault
after_pattern total [] = Err (Truncated total)
after_pattern total (m ∷ rest) = do
  after ← after_bytes total (4 * m) rest
  after_rows (offset_of total (m ∷ rest)) 0 m (take (4 * m) rest) after

-- the whole text: three texts of 32 bytes, three orderlists for each subtune, 25 bytes for each instrument, four
-- tables, the patterns
unfoldable pub after_song : List ℕ → Result (List ℕ) SongFault
after_song bytes = do
  texts ← after_magic bytes
  subtunes ← after_bytes (length bytes) 96 texts
  instruments ← after_counted (length bytes) 32 (after_each (after_each (after_order (length bytes)) 3)) subtunes
  tables ← after_counted (length bytes) 63 (λ k. after_bytes (length bytes) (25 * k)) instruments
  patterns ← after_each (after_table (length bytes)) 4 tables
  after_counted (length bytes) 208 (after_each (after_pattern (length bytes))) patterns

abbrev pub fault_in : {A : Type 0} → Result A SongFault → Option SongFault
fault_in (Ok x) = None
fault_in (Err fault) = Some fault

-- the first fault of a text, or none where it has none
unfoldable pub fault_of : List ℕ → Option SongFault
fault_of bytes = fault_in (after_song bytes)
