-- New numbers as lists by the old number, and the used parts as tests.
use Rattle.std.specs.Prelude.{ℕ, Bool, List, slice_index}
use Rattle.song_model.specs.declared.rows.Row.{Row}
use Rattle.song_model.specs.declared.tables.TableRow.{TableRow}
use Rattle.song_model.specs.declared.tables.TableName.{TableName}
use Rattle.song_model.specs.declared.tables.TableName.TheVariants.{Wave, Pulse, Filter, Speed}
use Rattle.song_model.specs.Pointers.{command_table, wave_row_table}
use Rattle.usage.specs.declared.parts.UsedParts.{UsedParts}
use Rattle.packing_rules.specs.UsedSets.{UsedSets}
use Rattle.packing_rules.specs.Renumbering.{pointer_number}
use Rattle.table_pack.specs.Marks.{is_marked}
use Rattle.song_pack.specs.declared.numbers.ForeignNumbers.{ForeignNumbers}
use Rattle.song_pack.specs.declared.numbers.RowNumbers.{RowNumbers}

-- the rows that are come to; of the speed table these are the ones that pointers name
abbrev pub reached_marks : UsedParts → TableName → List Bool
reached_marks parts Wave = parts.wave
reached_marks parts Pulse = parts.pulse
reached_marks parts Filter = parts.filter
reached_marks parts Speed = parts.speed

abbrev pub pointer_marks : UsedParts → TableName → List Bool
pointer_marks parts Wave = parts.wave_pointers
pointer_marks parts Pulse = parts.pulse_pointers
pointer_marks parts Filter = parts.filter_pointers
pointer_marks parts Speed = parts.speed

-- the marks of used parts as tests
abbrev pub sets_of : UsedParts → UsedSets
sets_of parts = record {
  patterns = is_marked parts.patterns;
  instruments = is_marked parts.instruments;
  reached = λ name. is_marked (reached_marks parts name);
  pointers = λ name. is_marked (pointer_marks parts name);
}

-- ---- lists of numbers

-- what a row of the wave table points at; the wave table has no list
abbrev pub foreign_of : ForeignNumbers → TableName → ℕ → ℕ
foreign_of numbers Wave p = p
foreign_of numbers Pulse p = slice_index numbers.pulse p
foreign_of numbers Filter p = slice_index numbers.filter p
foreign_of numbers Speed p = slice_index numbers.speed p

abbrev pub row_of : RowNumbers → TableName → ℕ → ℕ
row_of numbers Wave p = slice_index numbers.wave p
row_of numbers Pulse p = slice_index numbers.others.pulse p
row_of numbers Filter p = slice_index numbers.others.filter p
row_of numbers Speed p = slice_index numbers.others.speed p

-- ---- parts under these numbers

-- a row of the wave table, where what it points at in another table has its number there
abbrev pub foreign_row : (TableName → ℕ → ℕ) → TableRow → TableRow
foreign_row number row = record row { right = pointer_number number (wave_row_table row.left) row.right }

-- a row of a pattern
abbrev pub numbered_row : (TableName → ℕ → ℕ) → (ℕ → ℕ) → Row → Row
numbered_row number instrument row = record row {
  instrument = instrument row.instrument;
  param = pointer_number number (command_table row.command) row.param;
}
