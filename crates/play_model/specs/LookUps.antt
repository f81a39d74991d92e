-- What the rules of a frame look up. They are rules over any such look-ups: a song's own are one example.
use Rattle.std.specs.Prelude.{ℕ, List}
use Rattle.song_model.specs.declared.rows.Row.{Row}
use Rattle.song_model.specs.declared.instruments.Instrument.{Instrument}
use Rattle.song_model.specs.declared.tables.TableRow.{TableRow}
use Rattle.song_model.specs.declared.tables.TableName.{TableName}
use Rattle.song_model.specs.declared.songs.Song.{Song}
use Rattle.song_model.specs.LookUp.{instrument_at, table_row, pattern_at}

pub record LookUps : Type 0 where
  -- the instrument with this number, counted from 1
  pub instrument : ℕ → Instrument
  -- the row of a table with this number, counted from 1
  pub row : TableName → ℕ → TableRow
  -- the rows of the pattern with this number, counted from 0
  pub rows : ℕ → List Row

-- what a song has under a number, with zeros where it stores nothing
abbrev pub look_ups_of : Song → LookUps
look_ups_of song =
    record { instrument = instrument_at song; row = table_row song; rows = pattern_at song }
