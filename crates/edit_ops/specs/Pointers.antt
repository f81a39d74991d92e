-- Each pointer into a table, wherever it stands in a song, and how rows that come and go move them. From the
-- instruments, commands and tables of the GoatTracker 2 readme. A pointer counts rows from 1; 0 points at nothing.
use Rattle.std.specs.Prelude.{ℕ, ◌+◌, ◌-◌, Bool, true, false, not, ◌&&◌, ◌==◌, nat_le, nat_lt, List}
use Rattle.std.specs.Prelude.{map, Option, Some, None, if◌then◌else◌}
use Rattle.song_model.specs.declared.rows.Row.{Row}
use Rattle.song_model.specs.declared.instruments.Instrument.{Instrument}
use Rattle.song_model.specs.declared.tables.TableRow.{TableRow}
use Rattle.song_model.specs.declared.tables.TableName.{TableName}
use Rattle.song_model.specs.declared.tables.TableName.TheVariants.{Wave, Pulse, Filter, Speed}
use Rattle.song_model.specs.declared.songs.Song.{Song}
use Rattle.song_model.specs.Pointers.{command_table, wave_row_table}
use Rattle.edit_ops.specs.declared.shifts.Shift.{Shift}
use Rattle.edit_ops.specs.declared.shifts.Shift.TheVariants.{Up, Down}

-- ---- the number that a pointer becomes

-- before row g another comes: the pointers from g to 254 are raised by one. Row g goes: the pointers above g are
-- lowered by one. As rows are counted from 1, 0 stays.
abbrev pub shifted : Shift → ℕ → ℕ
shifted (Up g) pointer = if nat_le g pointer && nat_le pointer 254 then pointer + 1 else pointer
shifted (Down g) pointer = if nat_lt g pointer then pointer - 1 else pointer

-- ---- where pointers stand

-- this is the table that is pointed into
abbrev pub is_into : TableName → Option TableName → Bool
is_into name None = false
is_into Wave (Some Wave) = true
is_into Pulse (Some Pulse) = true
is_into Filter (Some Filter) = true
is_into Speed (Some Speed) = true
is_into name (Some other) = false

-- the table that a jump row of a table, one with the left side $FF, points into: its own; the speed table has none
abbrev pub jump_table : TableName → Option TableName
jump_table Speed = None
jump_table name = Some name

-- the table that a row of a table points into by its right side
abbrev pub right_table : TableName → ℕ → Option TableName
right_table Wave left = if left == 0xFF then jump_table Wave else wave_row_table left
right_table name left = if left == 0xFF then jump_table name else None

-- ---- all pointers into a table moved

abbrev pub moved_instrument : TableName → (ℕ → ℕ) → Instrument → Instrument
moved_instrument Wave move i = record i { wave = move i.wave }
moved_instrument Pulse move i = record i { pulse = move i.pulse }
moved_instrument Filter move i = record i { filter = move i.filter }
moved_instrument Speed move i = record i { vibrato = move i.vibrato }

abbrev pub moved_row : TableName → (ℕ → ℕ) → Row → Row
moved_row name move row =
    if is_into name (command_table row.command) then record row { param = move row.param } else row

-- the row has such a pointer, and it becomes another
abbrev pub is_moved : TableName → (ℕ → ℕ) → Row → Bool
is_moved name move row = is_into name (command_table row.command) && not (move row.param == row.param)

-- a row of the table `holder`
abbrev pub moved_table_row : TableName → TableName → (ℕ → ℕ) → TableRow → TableRow
moved_table_row name holder move row =
    if is_into name (right_table holder row.left) then record row { right = move row.right } else row

abbrev pub moved_table : TableName → TableName → (ℕ → ℕ) → List TableRow → List TableRow
moved_table name holder move rows = map (moved_table_row name holder move) rows

unfoldable pub moved_song : TableName → (ℕ → ℕ) → Song → Song
moved_song name move song = record song {
  instruments = map (moved_instrument name move) song.instruments;
  wave = moved_table name Wave move song.wave;
  pulse = moved_table name Pulse move song.pulse;
  filter = moved_table name Filter move song.filter;
  speed = moved_table name Speed move song.speed;
  patterns = map (map (moved_row name move)) song.patterns;
}
