-- What the rows of used patterns have.
use Rattle.std.specs.Prelude.{◌≡◌, ◌≢◌, ℕ, Contains}
use Rattle.song_model.specs.declared.rows.Row.{Row}
use Rattle.song_model.specs.declared.songs.Song.{Song}
use Rattle.song_model.specs.LookUp.{pattern_at}
use Rattle.play_model.specs.Used.{IsUsedPattern, IsUsedRow, IsUsedInstrument}
use Rattle.usage.specs.Marks.{AreMarks}
use Rattle.usage.specs.Building.{AreMarksAt}
use Rattle.usage.specs.declared.rows.RowMarks.{RowMarks}

-- the row names the instrument
abbrev pub NamesInstrument : Row → ℕ → Type 0
NamesInstrument row n = (row.instrument ≡ n) × (n ≢ 0)

-- the row has the command with the parameter
abbrev pub HasCommand : Row → ℕ → ℕ → Type 0
HasCommand row c d = (row.command ≡ c) × (row.param ≡ d)

-- the row has the note
abbrev pub HasNote : Row → ℕ → Type 0
HasNote row n = row.note ≡ n

-- the row is one of this pattern, and the pattern is used
pub record IsUsedRowOf (song : Song) (pattern : ℕ) (row : Row) : Type 0 where
  pub used : IsUsedPattern song pattern
  pub has : Contains (pattern_at song pattern) row

-- such a row names the instrument
pub record PatternNames (song : Song) (pattern n : ℕ) : Type 0 where
  pub row : Row
  pub used : IsUsedRowOf song pattern row
  pub names : NamesInstrument row n

-- such a row has the command with the parameter
pub record PatternHas (song : Song) (pattern c d : ℕ) : Type 0 where
  pub row : Row
  pub used : IsUsedRowOf song pattern row
  pub has : HasCommand row c d

-- such a row has the note
pub record PatternSounds (song : Song) (pattern n : ℕ) : Type 0 where
  pub row : Row
  pub used : IsUsedRowOf song pattern row
  pub has : HasNote row n

-- a row of a used pattern has the command with the parameter
pub record IsUsedCommand (song : Song) (c d : ℕ) : Type 0 where
  pub row : Row
  pub used : IsUsedRow song row
  pub has : HasCommand row c d

-- a row of a used pattern has the note
pub record IsUsedNote (song : Song) (n : ℕ) : Type 0 where
  pub row : Row
  pub used : IsUsedRow song row
  pub has : HasNote row n

-- the marks of a song's rows
pub record AreRowsOf (song : Song) (marks : RowMarks) : Type 0 where
  pub instruments : AreMarks (IsUsedInstrument song) marks.instruments
  pub commands : AreMarksAt (IsUsedCommand song) marks.commands
  pub notes : AreMarks (IsUsedNote song) marks.notes
