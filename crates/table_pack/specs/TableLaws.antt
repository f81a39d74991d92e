-- What a reader may rely on in new numbers of tables.
use Rattle.std.specs.Prelude.{◌≡◌, ◌≢◌, ℕ, ◌+◌, ◌≤◌, Bool, true, false, List, length, map, filter}
use Rattle.song_model.specs.declared.tables.TableRow.{TableRow}
use Rattle.song_model.specs.declared.tables.TableName.TheVariants.{Wave, Pulse, Filter}
use Rattle.song_model.specs.declared.songs.Song.{Song}
use Rattle.song_model.specs.LookUp.{IsNumbered}
use Rattle.packing_rules.specs.Segments.{ProgramTable, IsWhole, numbers, is_jump_row, is_end, keeps, stand_in}
use Rattle.packing_rules.specs.ProgramMaps.{retargeted, row_at, KeepsPrograms, rows_read}
use Rattle.packing_rules.specs.UsedSets.{UsedSets}
use Rattle.packing_rules.specs.Renumbering.{program_number, program_rows, wave_row, wave_programs, pulse_programs}
use Rattle.packing_rules.specs.Renumbering.{filter_programs, table_number}
use Rattle.table_pack.specs.TableMaps.{IsRenumbering}

-- new numbers keep the programs of the rows that are kept, where a program goes on to a kept row and jumps to one, or
-- stops; each jump goes to the new number of its target
abbrev pub RenumberingsKeepPrograms : Type 0
RenumberingsKeepPrograms =
    (pulse : Bool) (keep : ℕ → Bool) (old new : List TableRow) (to : ℕ → ℕ) → IsRenumbering keep old new to →
    ((p : ℕ) → keep p ≡ true → IsNumbered old p) →
    ((p : ℕ) → keep p ≡ true → is_end pulse (row_at old p) ≡ false → keep (p + 1) ≡ true) →
    ((p : ℕ) → keep p ≡ true → is_jump_row (row_at old p) ≡ true → (row_at old p).right ≢ 0 →
    keep (row_at old p).right ≡ true) →
    KeepsPrograms pulse keep old (map (retargeted to) new) to

-- new numbers of the rows that stay keep all programs of the table, where the row that stands for another has its number
abbrev pub StoredOnceKeepsPrograms : Type 0
StoredOnceKeepsPrograms =
    (table : ProgramTable) (keep : ℕ → Bool) (stand to : ℕ → ℕ) (new : List TableRow) → IsWhole table →
    ((p : ℕ) → keep p ≡ keeps table p) → ((p : ℕ) → stand p ≡ stand_in table p) →
    IsRenumbering keep table.rows new to →
    KeepsPrograms table.pulse table.reached table.rows (map (retargeted (λ p. to (stand p))) new) (λ p. to (stand p))

-- an earlier row has a smaller number, and each number is that of a kept row
abbrev pub RenumberingsKeepOrder : Type 0
RenumberingsKeepOrder =
    (keep : ℕ → Bool) (old new : List TableRow) (to : ℕ → ℕ) (p q : ℕ) → IsRenumbering keep old new to →
    ((p : ℕ) → keep p ≡ true → IsNumbered old p) → keep p ≡ true → keep q ≡ true → p + 1 ≤ q →
    to p + 1 ≤ to q

-- the rows of a renumbering are those that are kept, in order
abbrev pub RenumberedRowsAreKept : Type 0
RenumberedRowsAreKept =
    (keep : ℕ → Bool) (old new : List TableRow) (to : ℕ → ℕ) → IsRenumbering keep old new to →
    ((p : ℕ) → keep p ≡ true → IsNumbered old p) → new ≡ map (row_at old) (filter keep (numbers (length old)))

-- so the rows that stay, under new numbers, are the packed table's rows, and their numbers are its numbers
abbrev pub StoredOnceIsPacked : Type 0
StoredOnceIsPacked =
    (table : ProgramTable) (keep : ℕ → Bool) (stand to : ℕ → ℕ) (new : List TableRow) → IsWhole table →
    ((p : ℕ) → keep p ≡ keeps table p) → ((p : ℕ) → stand p ≡ stand_in table p) →
    IsRenumbering keep table.rows new to →
    (map (retargeted (λ p. to (stand p))) new ≡ program_rows table) × ((p : ℕ) → to (stand p) ≡ program_number table p)

-- and these keep all programs of the table
abbrev pub PackedTablesKeepPrograms : Type 0
PackedTablesKeepPrograms = (table : ProgramTable) → IsWhole table →
    KeepsPrograms table.pulse table.reached table.rows (program_rows table) (program_number table)

-- what is read in a packed table of a song, from the new number of a row, is what is read in the song's table from that
-- row: the same left sides, and but for jumps and pointers into other tables the same right sides
abbrev pub PackedProgramsAreRead : Type 0
PackedProgramsAreRead = (song : Song) (used : UsedSets) (n p : ℕ) →
    (IsWhole (wave_programs song used) → used.reached Wave p ≡ true →
    rows_read false (program_rows (wave_programs song used)) n (table_number song used Wave p)
    ≡ map (retargeted (table_number song used Wave)) (map (wave_row song used) (rows_read false song.wave n p)))
    × (IsWhole (pulse_programs song used) → used.reached Pulse p ≡ true →
    rows_read true (program_rows (pulse_programs song used)) n (table_number song used Pulse p)
    ≡ map (retargeted (table_number song used Pulse)) (rows_read true song.pulse n p))
    × (IsWhole (filter_programs song used) → used.reached Filter p ≡ true →
    rows_read false (program_rows (filter_programs song used)) n (table_number song used Filter p)
    ≡ map (retargeted (table_number song used Filter)) (rows_read false song.filter n p))
