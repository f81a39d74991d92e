-- Edits of tables. The tables are 0 wave, 1 pulse, 2 filter, 3 speed; their rows are counted from 1.
use Rattle.std.specs.Prelude.{ℕ, ◌+◌, ◌-◌, Bool, ◌||◌, ◌==◌, nat_lt, length, slice_set, if◌then◌else◌}
use Rattle.std.specs.List.{insert, remove}
use Rattle.song_model.specs.declared.tables.TableRow.{TableRow}
use Rattle.song_model.specs.declared.tables.TableName.{TableName}
use Rattle.song_model.specs.declared.tables.TableName.TheVariants.{Wave, Pulse, Filter, Speed}
use Rattle.song_model.specs.declared.songs.Song.{Song}
use Rattle.song_model.specs.LookUp.{table_of, with_table}
use Rattle.edit_ops.specs.declared.shifts.Shift.TheVariants.{Up, Down}
use Rattle.edit_ops.specs.Pointers.{shifted, moved_song}

abbrev pub table_named : ℕ → TableName
table_named table =
    if table == 0 then Wave else if table == 1 then Pulse else if table == 2 then Filter else Speed

abbrev pub lacks_table : ℕ → Bool
lacks_table table = nat_lt 3 table

abbrev pub rows_of : Song → ℕ → ℕ
rows_of song table = length (table_of song (table_named table))

-- no row has this number
abbrev pub lacks_table_row : Song → ℕ → ℕ → Bool
lacks_table_row song table number =
    lacks_table table || number == 0 || nat_lt (rows_of song table) number

-- no row can be put before this one; one after the last it comes last
abbrev pub lacks_table_gap : Song → ℕ → ℕ → Bool
lacks_table_gap song table number =
    lacks_table table || number == 0 || nat_lt (rows_of song table + 1) number

abbrev pub has_table_rows : Song → ℕ → ℕ → Bool
has_table_rows song table n = rows_of song table == n

abbrev pub with_table_row : Song → TableName → ℕ → TableRow → Song
with_table_row song name number row =
    with_table song name (slice_set (table_of song name) (number - 1) row)

-- the pointers of the rows that stand move; the new row's sides stay as given
unfoldable pub with_row_inserted : Song → TableName → ℕ → TableRow → Song
with_row_inserted song name number row =
    let moved = moved_song name (shifted (Up number)) song in
    with_table moved name (insert (table_of moved name) (number - 1) row)

unfoldable pub with_row_deleted : Song → TableName → ℕ → Song
with_row_deleted song name number =
    let moved = moved_song name (shifted (Down number)) song in
    with_table moved name (remove (table_of moved name) (number - 1))
