-- Songs whose pointers have moved: their patterns are within their limits, and their tables keep their lengths.
use Rattle.std.proofs.Common.{◌≡◌, ℕ, ◌+◌, ◌<◌, ◌==◌, Bool, true, false, not, ◌&&◌, List, []}
use Rattle.std.proofs.Common.{◌∷◌, length, map, get_or, refl, sym, ap, ◌∙◌, inl, inr, arith, nat_le, nat_lt}
use Rattle.std.specs.List.{list_any}
use Rattle.std.proofs.lemmas.Bool.{cases_Bool, or_parts}
use Rattle.std.proofs.lemmas.Bool.Decides.{nat_tests}
use Rattle.std.proofs.lemmas.List.{length-map}
use Rattle.std.proofs.lemmas.List.Elements.{All-map}
use Rattle.song_model.specs.declared.rows.Row.{Row}
use Rattle.song_model.specs.declared.tables.TableRow.{TableRow}
use Rattle.song_model.specs.declared.tables.TableName.{TableName}
use Rattle.song_model.specs.declared.tables.TableName.TheVariants.{Wave, Pulse, Filter, Speed}
use Rattle.song_model.specs.declared.songs.Song.{Song}
use Rattle.song_model.specs.Pointers.{command_table}
use Rattle.song_model.specs.PatternLimits.{IsRow, IsPattern}
use Rattle.song_model.specs.LookUp.{table_of, with_table}
use Rattle.edit_ops.specs.declared.shifts.Shift.{Shift}
use Rattle.edit_ops.specs.declared.shifts.Shift.TheVariants.{Up, Down}
use Rattle.edit_ops.specs.declared.inverses.PointerParts.{PointerParts}
use Rattle.edit_ops.specs.Pointers.{shifted, is_into, is_moved, moved_row, moved_song}
use Rattle.edit_ops.specs.Back.{with_parts, are_parts, table_in, with_table_in}

-- a pointer that has moved is a byte
up_small : (g p : ℕ) → (nat_le g p && nat_le p 254) ≡ true → p + 1 < 256
up_small g p h = grind (arith, nat_tests)

raised_small : (g p : ℕ) → p < 256 → shifted (Up g) p < 256
raised_small g p small = elim (cases_Bool (nat_le g p && nat_le p 254)) [
  | inl up ↦ rw up (up_small g p up)
  | inr stays ↦ rw stays small
]

lowered_small : (g p : ℕ) → p < 256 → shifted (Down g) p < 256
lowered_small g p small = elim (cases_Bool (nat_lt g p)) [
  | inl down ↦ rw down (omega arith)
  | inr stays ↦ rw stays small
]

shifted_small : (shift : Shift) (p : ℕ) → p < 256 → shifted shift p < 256
shifted_small (Up g) p small = raised_small g p small
shifted_small (Down g) p small = lowered_small g p small

moved_row_in_range : (name : TableName) (shift : Shift) (row : Row) → IsRow row → IsRow
    (moved_row name (shifted shift) row)
moved_row_in_range name shift row r = elim (cases_Bool (is_into name (command_table row.command))) [
  | inl into ↦
      rw into (record {
        note_from = r.note_from;
        note_to = r.note_to;
        instrument = r.instrument;
        command = r.command;
        param = shifted_small shift row.param r.param;
      })
  | inr other ↦ rw other r
]

pub moved_is_pattern : (name : TableName) (shift : Shift) (rows : List Row) → IsPattern rows →
    IsPattern (map (moved_row name (shifted shift)) rows)
moved_is_pattern name shift rows p =
    let n = length-map rows (moved_row name (shifted shift)) in
    record {
      count = record { least = omega (arith, n, p.count.least); most = omega (arith, n, p.count.most) };
      each =
          All-map IsRow (moved_row name (shifted shift)) rows
          (λ k d inside. moved_row_in_range name shift (get_or rows k d) (p.each k d inside));
    }

-- ---- the parts of a song whose pointers have moved

pub table_made : (song : Song) (parts : PointerParts) (name : TableName) →
    table_in parts name ≡ table_of (with_parts song parts) name
table_made song parts Wave = refl
table_made song parts Pulse = refl
table_made song parts Filter = refl
table_made song parts Speed = refl

pub set_made : (song : Song) (parts : PointerParts) (name : TableName) (table : List TableRow) →
    with_parts song (with_table_in parts name table) ≡ with_table (with_parts song parts) name table
set_made song parts Wave table = refl
set_made song parts Pulse table = refl
set_made song parts Filter table = refl
set_made song parts Speed table = refl

pub set_are_parts : (song : Song) (parts : PointerParts) (name : TableName) (table : List TableRow) →
    are_parts song (with_table_in parts name table) ≡ are_parts song parts
set_are_parts song parts Wave table = refl
set_are_parts song parts Pulse table = refl
set_are_parts song parts Filter table = refl
set_are_parts song parts Speed table = refl

pub length-moved : (name : TableName) (move : ℕ → ℕ) (song : Song) → length
    (table_of (moved_song name move song) name) ≡
    length (table_of song name)
unfolding moved_song
length-moved Wave move song = length-map song.wave _
length-moved Pulse move song = length-map song.pulse _
length-moved Filter move song = length-map song.filter _
length-moved Speed move song = length-map song.speed _

module _ (name : TableName) (move : ℕ → ℕ) (song : Song) (parts : PointerParts) (table stored : List TableRow)
    (made : with_parts song parts ≡ moved_song name move song) (in_parts : table ≡ table_in parts name)
    (read : stored ≡ table) where
  -- the rows that the code reads
  pub rows_made : stored ≡ table_of (moved_song name move song) name
  rows_made = read ∙ in_parts ∙ table_made song parts name ∙ ap (λ (s : Song). table_of s name) made

  pub size_made : length stored ≡ length (table_of song name)
  size_made = ap length rows_made ∙ length-moved name move song

-- ---- patterns with no pointer that moves

same_number : (a b : ℕ) → (true && not (a == b)) ≡ false → a ≡ b
same_number a b h = grind (arith, nat_tests)

stays_row : (name : TableName) (move : ℕ → ℕ) (row : Row) → is_moved name move row ≡ false → moved_row name move
    row ≡ row
stays_row name move row h = elim (cases_Bool (is_into name (command_table row.command))) [
  | inl into ↦
      let same : move row.param ≡ row.param =
      same_number (move row.param) row.param
      (ap (λ (b : Bool). b && not (move row.param == row.param)) (sym into) ∙ h) in
      rw (into, same) refl
  | inr other ↦ rw other refl
]

pub stays_pattern : (name : TableName) (move : ℕ → ℕ) (rows : List Row) → list_any (is_moved name move) rows ≡ false →
    map (moved_row name move) rows ≡ rows
stays_pattern name move [] h = refl
stays_pattern name move (row ∷ rows) h =
    let parts = or_parts (is_moved name move row) (list_any (is_moved name move) rows) h in
    rw (stays_row name move row parts.0, stays_pattern name move rows parts.1) refl
