-- The rows of a table that pointers and jumps name.
use Rattle.std.specs.Prelude.{◌≡◌, ◌≢◌, ℕ, true, ◌⊎◌}
use Rattle.song_model.specs.declared.tables.TableName.{TableName}
use Rattle.song_model.specs.declared.songs.Song.{Song}
use Rattle.song_model.specs.LookUp.{table_row}
use Rattle.play_model.specs.Reached.{is_jump, IsReached, IsPointer}
use Rattle.play_model.specs.Playable.{IsJumpTarget}
use Rattle.usage.specs.Marks.{AreMarks}
use Rattle.usage.specs.declared.checks.Programs.{Programs}

-- the marks of a table's pointers and of the rows that its programs come to
pub record ArePrograms (song : Song) (name : TableName) (programs : Programs) : Type 0 where
  pub pointers : AreMarks (IsPointer song name) programs.pointers
  pub reached : AreMarks (IsReached song name) programs.reached

-- row p is come to and names the other by a jump
pub record IsTargetOf (song : Song) (name : TableName) (p row : ℕ) : Type 0 where
  pub reached : IsReached song name p
  pub jump : is_jump name (table_row song name p) ≡ true
  pub target : (table_row song name p).right ≡ row
  pub some : row ≢ 0

-- a pointer or a jump names the row
abbrev pub IsNamed : Song → TableName → ℕ → Type 0
IsNamed song name row = IsPointer song name row ⊎ IsJumpTarget song name row
