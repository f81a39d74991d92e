-- The pointers into a table, as they are gathered from instruments and commands.
use Rattle.std.specs.Prelude.{◌≡◌, ◌≢◌, ℕ, ◌+◌, Bool, List, Option, Some}
use Rattle.song_model.specs.declared.tables.TableName.{TableName}
use Rattle.song_model.specs.declared.songs.Song.{Song}
use Rattle.song_model.specs.LookUp.{instrument_at}
use Rattle.song_model.specs.Pointers.{instrument_pointer, command_table, wave_row_table}
use Rattle.play_model.specs.Used.{IsUsedInstrument}
use Rattle.usage.specs.Marks.{IsMarked}
use Rattle.usage.specs.Building.{marks_of}
use Rattle.usage.specs.declared.pointers.CommandPlace.{CommandPlace}
use Rattle.usage.specs.declared.pointers.CommandPlace.TheVariants.{Pattern, WaveTable}

-- the table that a command points into; in the wave table it is a left side
abbrev pub table_at : CommandPlace → ℕ → Option TableName
table_at Pattern command = command_table command
table_at WaveTable command = wave_row_table (0xF0 + command)

-- the instrument is used and points there
pub record PointsAt (song : Song) (name : TableName) (instrument p : ℕ) : Type 0 where
  pub used : IsUsedInstrument song instrument
  pub points : instrument_pointer name (instrument_at song instrument) ≡ p
  pub some : p ≢ 0

-- some used instrument points there
pub record IsInstrumentPointer (song : Song) (name : TableName) (p : ℕ) : Type 0 where
  pub instrument : ℕ
  pub points : PointsAt song name instrument p

-- a marked parameter that isn't 0
pub record IsParameter (parameters : List Bool) (p : ℕ) : Type 0 where
  pub marked : IsMarked parameters p
  pub some : p ≢ 0

-- the same of this parameter
pub record IsParameterAt (parameters : List Bool) (at p : ℕ) : Type 0 where
  pub is : at ≡ p
  pub parameter : IsParameter parameters p

-- the command points into the table and has the parameter
pub record CommandPoints (place : CommandPlace) (name : TableName) (commands : List (List Bool)) (command p : ℕ) : Type
    0 where
  pub points : table_at place command ≡ Some name
  pub parameter : IsParameter (marks_of commands command) p

-- some command that points into the table has the parameter
pub record IsCommandPointer (place : CommandPlace) (name : TableName) (commands : List (List Bool)) (p : ℕ) : Type 0
  where
    pub command : ℕ
    pub points : CommandPoints place name commands command p
