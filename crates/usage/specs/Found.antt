-- All that is found of a song, and how its programs break a rule.
use Rattle.std.specs.Prelude.{◌≤◌, length}
use Rattle.song_model.specs.declared.tables.TableName.TheVariants.{Wave, Pulse, Filter, Speed}
use Rattle.song_model.specs.declared.songs.Song.{Song}
use Rattle.play_model.specs.declared.unplayable.Unplayable.{Unplayable}
use Rattle.play_model.specs.declared.unplayable.Unplayable.TheVariants.{TableOverflow, PointerToJump}
use Rattle.play_model.specs.Used.{IsPlayedByte}
use Rattle.play_model.specs.Reached.{IsPointer}
use Rattle.play_model.specs.Playable.{RunsOff, PointsAtJump}
use Rattle.usage.specs.Marks.{AreMarks}
use Rattle.usage.specs.Building.{AreMarksAt}
use Rattle.usage.specs.Rows.{AreRowsOf}
use Rattle.usage.specs.Waves.{IsWaveCommand}
use Rattle.usage.specs.Checks.{ArePrograms}
use Rattle.usage.specs.declared.found.Found.{Found}

-- each mark says what it is for, and the tables with programs keep their limit
pub record IsFoundOf (song : Song) (found : Found) : Type 0 where
  pub bytes : AreMarks (IsPlayedByte song) found.bytes
  pub rows : AreRowsOf song found.rows
  pub wave : ArePrograms song Wave found.wave
  pub wave_commands : AreMarksAt (IsWaveCommand song) found.wave_commands
  pub pulse : ArePrograms song Pulse found.pulse
  pub filter : ArePrograms song Filter found.filter
  pub speed : AreMarks (IsPointer song Speed) found.speed
  pub wave_rows : length song.wave ≤ 255
  pub pulse_rows : length song.pulse ≤ 255
  pub filter_rows : length song.filter ≤ 255

-- the refusal is one of a program
abbrev pub ProgramFails : Song → Unplayable → Type 0
ProgramFails song (TableOverflow name row) = RunsOff song name row
ProgramFails song (PointerToJump name row) = PointsAtJump song name row
ProgramFails song _ = ⊥
