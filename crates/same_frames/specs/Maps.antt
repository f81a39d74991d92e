-- New numbers for the parts of a song, and what stands for a part under them: it is equal but for the numbers.
use Rattle.std.specs.Prelude.{◌≡◌, ◌≢◌, ℕ, ◌==◌, if◌then◌else◌, List, [], ◌∷◌, Option, Some, None}
use Rattle.song_model.specs.declared.rows.Row.{Row}
use Rattle.song_model.specs.declared.orders.Step.{Step}
use Rattle.song_model.specs.declared.instruments.Instrument.{Instrument}
use Rattle.song_model.specs.declared.tables.TableRow.{TableRow}
use Rattle.song_model.specs.declared.tables.TableName.{TableName}
use Rattle.song_model.specs.declared.tables.TableName.TheVariants.{Wave, Pulse, Filter, Speed}
use Rattle.song_model.specs.Pointers.{command_table, wave_row_table}
use Rattle.play_model.specs.Reached.{is_jump}

pub record Maps : Type 0 where
  -- of a table's row, counted from 1
  pub row : TableName → ℕ → ℕ
  -- of an instrument, counted from 1
  pub instrument : ℕ → ℕ
  -- of a pattern, counted from 0
  pub pattern : ℕ → ℕ

-- each part keeps its number
abbrev pub same_numbers : Maps
same_numbers = record { row = λ name p. p; instrument = λ i. i; pattern = λ n. n }

-- ---- tables

-- what points into a table goes by that table's map, and what is no pointer stays
abbrev pub moved_pointer : Maps → Option TableName → ℕ → ℕ
moved_pointer maps (Some name) p = maps.row name p
moved_pointer maps None p = p

-- the other table that the right side of a row points into: rows of the wave table alone do
abbrev pub foreign_table : TableName → TableRow → Option TableName
foreign_table Wave row = wave_row_table row.left
foreign_table Pulse row = None
foreign_table Filter row = None
foreign_table Speed row = None

-- a jump points into its own table
abbrev pub right_table : TableName → TableRow → Option TableName
right_table name row = if is_jump name row then Some name else foreign_table name row

-- a row of this table with its right side moved
abbrev pub moved_row : Maps → TableName → TableRow → TableRow
moved_row maps name row = record row { right = moved_pointer maps (right_table name row) row.right }

-- ---- instruments

-- an instrument with its four pointers moved
abbrev pub moved_instrument : Maps → Instrument → Instrument
moved_instrument maps i = record i {
  wave = maps.row Wave i.wave;
  pulse = maps.row Pulse i.pulse;
  filter = maps.row Filter i.filter;
  vibrato = maps.row Speed i.vibrato;
}

-- the other instrument stands for it; names aren't played
pub record IsInstrumentFor (maps : Maps) (i other : Instrument) : Type 0 where
  pub moved : record other { name = i.name } ≡ moved_instrument maps i

-- ---- patterns

-- the last instrument named once this row is there too, where this one was named last above it; 0 is none
abbrev pub named_after : ℕ → Row → ℕ
named_after last row = if row.instrument == 0 then last else row.instrument

-- the other row stands for it, below rows that named this instrument last
pub record IsRowFor (maps : Maps) (last : ℕ) (row other : Row) : Type 0 where
  pub note : other.note ≡ row.note
  -- A row may leave out the instrument that was named last, or name it again: what counts is which one is named last
  -- in both patterns then.
  pub instrument : named_after (maps.instrument last) other ≡ maps.instrument (named_after last row)
  pub command : other.command ≡ row.command
  -- the parameter of command 0 says nothing
  pub param : row.command ≢ 0 → other.param ≡ moved_pointer maps (command_table row.command) row.param

-- each of the other rows stands for the row at its place
abbrev pub AreRowsFor : Maps → ℕ → List Row → List Row → Type 0
AreRowsFor maps last [] [] = Unit {0}
AreRowsFor maps last [] (other ∷ others) = ⊥
AreRowsFor maps last (row ∷ rows) [] = ⊥
AreRowsFor maps last (row ∷ rows) (other ∷ others) =
    IsRowFor maps last row other × AreRowsFor maps (named_after last row) rows others

-- at the beginning of a pattern none is named
pub record IsPatternFor (maps : Maps) (rows others : List Row) : Type 0 where
  pub each : AreRowsFor maps 0 rows others

-- a play with its pattern moved
abbrev pub moved_step : Maps → Step → Step
moved_step maps play = record play { pattern = maps.pattern play.pattern }
