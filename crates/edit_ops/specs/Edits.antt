-- The nineteen edits of a song: what each is refused for, and what it does. This project's own table of them, a
-- column after the other.
use Rattle.std.specs.Prelude.{◌-◌, Bool, false, not, ◌||◌, [], ◌∷◌, ◌++◌, map, slice_set, Result, Ok}
use Rattle.std.specs.Prelude.{Err, if◌then◌else◌}
use Rattle.std.specs.List.{insert, remove}
use Rattle.song_model.specs.declared.songs.Song.{Song}
use Rattle.song_model.specs.LookUp.{pattern_at, instrument_at, void_subtune}
use Rattle.song_model.specs.Silence.{rest_row}
use Rattle.edit_ops.specs.declared.edits.Edit.{Edit}
use Rattle.edit_ops.specs.declared.edits.Edit.TheVariants.{SetRow, InsertRow, DeleteRow, SetLength, CopyPattern}
use Rattle.edit_ops.specs.declared.edits.Edit.TheVariants.{TransposePattern, SetOrder, InsertOrder, DeleteOrder}
use Rattle.edit_ops.specs.declared.edits.Edit.TheVariants.{SetRestart, SetInstrument, SetInstrumentName, SetTable}
use Rattle.edit_ops.specs.declared.edits.Edit.TheVariants.{InsertTable, DeleteTable, SetText, AddSubtune, RemoveSubtune}
use Rattle.edit_ops.specs.declared.edits.Edit.TheVariants.{SetPatternCount}
use Rattle.edit_ops.specs.declared.edits.EditFault.{EditFault}
use Rattle.edit_ops.specs.declared.edits.EditFault.TheVariants.{NoSuchPlace, OutOfLimit, BadValue}
use Rattle.edit_ops.specs.Lists.{resized}
use Rattle.edit_ops.specs.Patterns.{lacks_pattern, lacks_row, lacks_row_gap, has_rows, is_no_length, is_row}
use Rattle.edit_ops.specs.Patterns.{some_leaves_range, transposed, with_pattern}
use Rattle.edit_ops.specs.Orders.{lacks_subtune, lacks_order, lacks_entry, lacks_entry_gap, has_entries, is_endmark}
use Rattle.edit_ops.specs.Orders.{order_at, with_entries, with_restart}
use Rattle.edit_ops.specs.Instruments.{is_no_instrument, is_no_field, with_field, with_instrument}
use Rattle.edit_ops.specs.Tables.{table_named, lacks_table_row, lacks_table_gap, has_table_rows, with_table_row}
use Rattle.edit_ops.specs.Tables.{with_row_inserted, with_row_deleted}
use Rattle.edit_ops.specs.Others.{lacks_text, with_text, has_subtunes, is_no_count, rest_pattern}

-- what the edit speaks of isn't there
unfoldable pub lacks_place : Song → Edit → Bool
lacks_place song (SetRow pattern place row) = lacks_row song pattern place
lacks_place song (InsertRow pattern place row) = lacks_row_gap song pattern place
lacks_place song (DeleteRow pattern place) = lacks_row song pattern place
lacks_place song (SetLength pattern length) = lacks_pattern song pattern
lacks_place song (CopyPattern from to) = lacks_pattern song from || lacks_pattern song to
lacks_place song (TransposePattern pattern by) = lacks_pattern song pattern
lacks_place song (SetOrder subtune channel place entry) = lacks_entry song subtune channel place
lacks_place song (InsertOrder subtune channel place entry) = lacks_entry_gap song subtune channel place
lacks_place song (DeleteOrder subtune channel place) = lacks_entry song subtune channel place
lacks_place song (SetRestart subtune channel restart) = lacks_order song subtune channel
lacks_place song (SetInstrument instrument field value) = is_no_instrument instrument
lacks_place song (SetInstrumentName instrument name) = is_no_instrument instrument
lacks_place song (SetTable table number row) = lacks_table_row song table number
lacks_place song (InsertTable table number row) = lacks_table_gap song table number
lacks_place song (DeleteTable table number) = lacks_table_row song table number
lacks_place song (SetText which text) = lacks_text which
lacks_place song AddSubtune = false
lacks_place song (RemoveSubtune subtune) = lacks_subtune song subtune
lacks_place song (SetPatternCount count) = false

-- a list would leave its limits; those that aren't named here never do
unfoldable pub is_over : Song → Edit → Bool
is_over song (InsertRow pattern place row) = has_rows song pattern 128
is_over song (DeleteRow pattern place) = has_rows song pattern 1
is_over song (SetLength pattern length) = is_no_length length
is_over song (InsertOrder subtune channel place entry) = has_entries song subtune channel 254
is_over song (InsertTable table number row) = has_table_rows song table 255
is_over song AddSubtune = has_subtunes song 32
is_over song (SetPatternCount count) = is_no_count count
is_over song edit = false

-- a value is out of its range; those that aren't named here have none that is
unfoldable pub is_bad : Song → Edit → Bool
is_bad song (SetRow pattern place row) = not (is_row row)
is_bad song (InsertRow pattern place row) = not (is_row row)
is_bad song (TransposePattern pattern by) = some_leaves_range song pattern by
is_bad song (SetOrder subtune channel place entry) = is_endmark entry
is_bad song (InsertOrder subtune channel place entry) = is_endmark entry
is_bad song (SetInstrument instrument field value) = is_no_field field
is_bad song edit = false

-- the song after the edit
unfoldable pub changed : Song → Edit → Song
changed song (SetRow pattern place row) =
    with_pattern song pattern (slice_set (pattern_at song pattern) place row)
changed song (InsertRow pattern place row) =
    with_pattern song pattern (insert (pattern_at song pattern) place row)
changed song (DeleteRow pattern place) =
    with_pattern song pattern (remove (pattern_at song pattern) place)
changed song (SetLength pattern length) =
    with_pattern song pattern (resized length rest_row (pattern_at song pattern))
changed song (CopyPattern from to) = with_pattern song to (pattern_at song from)
changed song (TransposePattern pattern by) =
    with_pattern song pattern (map (transposed by) (pattern_at song pattern))
changed song (SetOrder subtune channel place entry) =
    with_entries song subtune channel (slice_set (order_at song subtune channel).entries place entry)
changed song (InsertOrder subtune channel place entry) =
    with_entries song subtune channel (insert (order_at song subtune channel).entries place entry)
changed song (DeleteOrder subtune channel place) =
    with_entries song subtune channel (remove (order_at song subtune channel).entries place)
changed song (SetRestart subtune channel restart) = with_restart song subtune channel restart
changed song (SetInstrument instrument field value) =
    with_instrument song instrument (with_field field value (instrument_at song instrument))
changed song (SetInstrumentName instrument name) =
    with_instrument song instrument (record (instrument_at song instrument) { name = name })
changed song (SetTable table number row) = with_table_row song (table_named table) number row
changed song (InsertTable table number row) = with_row_inserted song (table_named table) number row
changed song (DeleteTable table number) = with_row_deleted song (table_named table) number
changed song (SetText which text) = with_text song which text
changed song AddSubtune = record song { subtunes = song.subtunes ++ void_subtune ∷ [] }
changed song (RemoveSubtune subtune) = record song { subtunes = remove song.subtunes (subtune - 1) }
changed song (SetPatternCount count) = record song { patterns = resized count rest_pattern song.patterns }

-- the song after the edit, or the first of the three reasons for which it can't be done
unfoldable pub edited : Song → Edit → Result Song EditFault
edited song edit =
    if lacks_place song edit then Err NoSuchPlace
    else if is_over song edit then Err OutOfLimit
    else if is_bad song edit then Err BadValue
    else Ok (changed song edit)
