-- What an inverse leads back to: the song with what the inverse holds put in place of its own.
use Rattle.std.specs.Prelude.{◌-◌, Bool, List, length, slice_set, Option, Some, None, option_map, if◌then◌else◌}
use Rattle.song_model.specs.declared.rows.Row.{Row}
use Rattle.song_model.specs.declared.orders.Subtune.{Subtune}
use Rattle.song_model.specs.declared.songs.Song.{Song}
use Rattle.song_model.specs.declared.tables.TableRow.{TableRow}
use Rattle.song_model.specs.declared.tables.TableName.{TableName}
use Rattle.song_model.specs.declared.tables.TableName.TheVariants.{Wave, Pulse, Filter, Speed}
use Rattle.song_model.specs.LookUp.{with_table}
use Rattle.edit_ops.specs.declared.inverses.Inverse.{Inverse}
use Rattle.edit_ops.specs.declared.inverses.Inverse.TheVariants.{Text, OnePattern, OneOrder, OneInstrument, Instruments}
use Rattle.edit_ops.specs.declared.inverses.Inverse.TheVariants.{OneTable, Subtunes, Patterns, Pointers}
use Rattle.edit_ops.specs.declared.inverses.PointerParts.{PointerParts}
use Rattle.edit_ops.specs.Patterns.{lacks_pattern, with_pattern}
use Rattle.edit_ops.specs.Orders.{lacks_order, with_order}
use Rattle.edit_ops.specs.Instruments.{lacks_instrument}
use Rattle.edit_ops.specs.Others.{lacks_text, with_text}
use Rattle.edit_ops.specs.Splices.{replaced}
use Rattle.edit_ops.specs.Numbered.{are_stored, with_all}

-- the song with these parts in place of its own; the patterns that aren't among them stay
abbrev pub with_parts : Song → PointerParts → Song
with_parts song parts = record song {
  instruments = parts.instruments;
  wave = parts.wave;
  pulse = parts.pulse;
  filter = parts.filter;
  speed = parts.speed;
  patterns = with_all song.patterns parts.patterns;
}

-- the song has the patterns that are among these parts
abbrev pub are_parts : Song → PointerParts → Bool
are_parts song parts = are_stored (length song.patterns) parts.patterns

-- a table of these parts, and the parts with another in its place
abbrev pub table_in : PointerParts → TableName → List TableRow
table_in parts Wave = parts.wave
table_in parts Pulse = parts.pulse
table_in parts Filter = parts.filter
table_in parts Speed = parts.speed

abbrev pub with_table_in : PointerParts → TableName → List TableRow → PointerParts
with_table_in parts Wave table = record parts { wave = table }
with_table_in parts Pulse table = record parts { pulse = table }
with_table_in parts Filter table = record parts { filter = table }
with_table_in parts Speed table = record parts { speed = table }

-- none where the song has no such part
unfoldable pub back : Song → Inverse → Option Song
back song (Text which text) = if lacks_text which then None else Some (with_text song which text)
back song (OnePattern pattern rows) =
    if lacks_pattern song pattern then None else Some (with_pattern song pattern rows)
back song (OneOrder subtune channel order) =
    if lacks_order song subtune channel then None else Some (with_order song subtune channel order)
back song (OneInstrument number instrument) =
    if lacks_instrument song number then None
    else Some (record song { instruments = slice_set song.instruments (number - 1) instrument })
back song (Instruments instruments) = Some (record song { instruments = instruments })
back song (OneTable name table) = Some (with_table song name table)
back song (Subtunes splice) =
    option_map (λ (subtunes : List Subtune). record song { subtunes = subtunes }) (replaced 32 song.subtunes splice)
back song (Patterns splice) =
    option_map (λ (patterns : List (List Row)). record song { patterns = patterns }) (replaced 208 song.patterns splice)
back song (Pointers parts) = if are_parts song parts then Some (with_parts song parts) else None
