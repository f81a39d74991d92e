-- The filter step: the first thing in a frame. One row of the filter program, or one frame of it.
use Rattle.std.specs.Prelude.{ℕ, ◌+◌, ◌&&◌, ◌==◌, if◌then◌else◌, nat_le, bit_and}
use Rattle.song_model.specs.declared.tables.TableRow.{TableRow}
use Rattle.song_model.specs.declared.tables.TableName.TheVariants.{Filter}
use Rattle.play_model.specs.LookUps.{LookUps}
use Rattle.play_model.specs.Wrap.{byte_plus, byte_minus}
use Rattle.play_model.specs.State.{Common}
use Rattle.play_model.specs.Helpers.{next_row}

-- a row with left side $80 or more sets the filter's kind and its control; a row $00 after it
-- belongs to it and sets the cutoff
abbrev pub filter_set : LookUps → TableRow → TableRow → Common → Common
filter_set look row following c =
    if following.left == 0
    then record c {
      filter_type = bit_and row.left 0x70;
      filter_control = row.right;
      cutoff = following.right;
      filter_ptr = next_row look Filter (c.filter_ptr + 1);
    }
    else record c {
      filter_type = bit_and row.left 0x70;
      filter_control = row.right;
      filter_ptr = next_row look Filter c.filter_ptr;
    }

-- a row $00 sets the cutoff
abbrev pub filter_cutoff : LookUps → TableRow → Common → Common
filter_cutoff look row c =
    record c { cutoff = row.right; filter_ptr = next_row look Filter c.filter_ptr }

-- any other row is a slide: the cutoff rises by its right side for as many frames as its left side says
abbrev pub filter_slide : LookUps → TableRow → ℕ → Common → Common
filter_slide look row time c = record c {
  cutoff = byte_plus c.cutoff row.right;
  filter_time = byte_minus time 1;
  filter_ptr = if byte_minus time 1 == 0 then next_row look Filter c.filter_ptr else c.filter_ptr;
}

abbrev pub filter_row : LookUps → TableRow → Common → Common
filter_row look row c =
    if (c.filter_time == 0) && nat_le 0x80 row.left
    then filter_set look row (look.row Filter (c.filter_ptr + 1)) c
    else if (c.filter_time == 0) && (row.left == 0) then filter_cutoff look row c
    else filter_slide look row (if c.filter_time == 0 then row.left else c.filter_time) c

unfoldable pub filter_step : LookUps → Common → Common
filter_step look c =
    if c.filter_ptr == 0 then c else filter_row look (look.row Filter c.filter_ptr) c
