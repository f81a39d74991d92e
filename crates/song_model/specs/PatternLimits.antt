-- The ranges of a pattern and its rows, from the GoatTracker 2 readme's format.
use Rattle.std.specs.Prelude.{ℕ, ◌≤◌, List, length, All}
use Rattle.song_model.specs.declared.rows.Row.{Row}
use Rattle.song_model.specs.declared.patterns.TheConstants.{MOST_ROWS}
use Rattle.song_model.specs.Basics.{IsByte}

-- a row that isn't the end row: a note, rest, keyoff or keyon, an instrument, a command, any parameter
pub record IsRow (row : Row) : Type 0 where
  pub note_from : 0x60 ≤ row.note
  pub note_to : row.note ≤ 0xBF
  pub instrument : row.instrument ≤ 0x3F
  pub command : row.command ≤ 0x0F
  pub param : IsByte row.param

-- a pattern has 1 to 128 rows
pub record IsPatternLength (n : ℕ) : Type 0 where
  pub least : 1 ≤ n
  pub most : n ≤ MOST_ROWS

pub record IsPattern (rows : List Row) : Type 0 where
  pub count : IsPatternLength (length rows)
  pub each : All IsRow rows
