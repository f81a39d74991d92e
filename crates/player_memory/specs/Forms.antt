-- The form in which a row of the wave table is stored. This is the project's own player.
use Rattle.std.specs.Prelude.{ℕ, ◌+◌, ◌-◌, ◌%◌, ◌&&◌, if◌then◌else◌, nat_lt, nat_le}
use Rattle.song_model.specs.declared.tables.TableRow.{TableRow}

-- A delay stands there as $E0 to $EF, and a waveform below $10 as itself. All other left sides stand as they are.
abbrev pub stored_left : ℕ → ℕ
stored_left left =
    if nat_lt left 0x10 then 0xE0 + left
    else if nat_le 0xE0 left && nat_le left 0xEF then left - 0xE0
    else left

-- Of a command and of a jump the right side stands as it is. Of each other row its bit 7 is turned.
abbrev pub stored_right : TableRow → ℕ
stored_right row = if nat_le 0xF0 row.left then row.right else (row.right + 0x80) % 256

abbrev pub stored : TableRow → TableRow
stored row = record { left = stored_left row.left; right = stored_right row }
