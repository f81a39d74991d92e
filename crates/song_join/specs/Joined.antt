-- Two songs in one: the first, and behind it the second under new numbers. This is this project's own.
use Rattle.std.specs.Prelude.{List, map, ◌++◌}
use Rattle.song_model.specs.declared.rows.Row.{Row}
use Rattle.song_model.specs.declared.orders.Subtune.{Subtune}
use Rattle.song_model.specs.declared.instruments.Instrument.{Instrument}
use Rattle.song_model.specs.declared.tables.TableRow.{TableRow}
use Rattle.song_model.specs.declared.tables.TableName.{TableName}
use Rattle.song_model.specs.declared.tables.TableName.TheVariants.{Wave, Pulse, Filter, Speed}
use Rattle.song_model.specs.declared.songs.Song.{Song}
use Rattle.song_model.specs.LookUp.{table_of, playable_subtunes}
use Rattle.song_model.specs.Pointers.{command_table}
use Rattle.same_frames.specs.Maps.{Maps, moved_pointer, moved_row, moved_instrument}
use Rattle.same_frames.specs.OrderLaws.{moved_subtune}
use Rattle.song_join.specs.Numbers.{new_numbers}

-- a row of a pattern with its instrument moved, and its parameter where the command points into a table by it
abbrev pub moved_pattern_row : Maps → Row → Row
moved_pattern_row maps row = record row {
  instrument = maps.instrument row.instrument;
  param = moved_pointer maps (command_table row.command) row.param;
}

-- of the second song only the subtunes that can be played
abbrev pub joined_subtunes : Song → Song → List Subtune
joined_subtunes first second =
    first.subtunes ++ map (moved_subtune (new_numbers first second)) (playable_subtunes second)

abbrev pub joined_instruments : Song → Song → List Instrument
joined_instruments first second =
    first.instruments ++ map (moved_instrument (new_numbers first second)) second.instruments

-- a jump's right side, and that of a command of the wave table that points into another table, is moved
abbrev pub joined_rows : Song → Song → TableName → List TableRow
joined_rows first second name =
    table_of first name ++ map (moved_row (new_numbers first second) name) (table_of second name)

abbrev pub joined_patterns : Song → Song → List (List Row)
joined_patterns first second =
    first.patterns ++ map (map (moved_pattern_row (new_numbers first second))) second.patterns

-- the texts are the first song's
unfoldable pub joined : Song → Song → Song
joined first second = record first {
  subtunes = joined_subtunes first second;
  instruments = joined_instruments first second;
  wave = joined_rows first second Wave;
  pulse = joined_rows first second Pulse;
  filter = joined_rows first second Filter;
  speed = joined_rows first second Speed;
  patterns = joined_patterns first second;
}
