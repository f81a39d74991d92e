-- The pulse step: one row of the pulse program, or one frame of it.
use Rattle.std.specs.Prelude.{ℕ, ◌+◌, ◌-◌, ◌*◌, ◌%◌, ◌&&◌, ◌==◌, if◌then◌else◌, nat_lt, nat_le}
use Rattle.song_model.specs.declared.tables.TableRow.{TableRow}
use Rattle.song_model.specs.declared.tables.TableName.TheVariants.{Pulse}
use Rattle.play_model.specs.LookUps.{LookUps}
use Rattle.play_model.specs.Wrap.{byte_minus, pulse_plus, pulse_minus}
use Rattle.play_model.specs.State.{Voice}
use Rattle.play_model.specs.Helpers.{next_row}

-- a row with left side $80 or more sets the width
abbrev pub pulse_set : LookUps → TableRow → Voice → Voice
pulse_set look row v = record v {
  pulse = 256 * (row.left % 16) + row.right;
  pulse_ptr = next_row look Pulse v.pulse_ptr;
}

-- the width rises by a right side below $80, and falls by what a greater one lacks to 256
abbrev pub pulse_moved : ℕ → ℕ → ℕ
pulse_moved pulse right =
    if nat_lt right 0x80 then pulse_plus pulse right else pulse_minus pulse (256 - right)

-- any other row moves the width for as many frames as its left side says
abbrev pub pulse_slide : LookUps → TableRow → ℕ → Voice → Voice
pulse_slide look row time v = record v {
  pulse = pulse_moved v.pulse row.right;
  pulse_time = byte_minus time 1;
  pulse_ptr = if byte_minus time 1 == 0 then next_row look Pulse v.pulse_ptr else v.pulse_ptr;
}

-- a row $00 stops the program
abbrev pub pulse_row : LookUps → TableRow → Voice → Voice
pulse_row look row v =
    if (v.pulse_time == 0) && nat_le 0x80 row.left then pulse_set look row v
    else if (v.pulse_time == 0) && (row.left == 0) then v
    else pulse_slide look row (if v.pulse_time == 0 then row.left else v.pulse_time) v

unfoldable pub pulse_step : LookUps → Voice → Voice
pulse_step look v = if v.pulse_ptr == 0 then v else pulse_row look (look.row Pulse v.pulse_ptr) v
