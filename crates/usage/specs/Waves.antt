-- The commands in the rows of the wave table that programs come to.
use Rattle.std.specs.Prelude.{◌≡◌, ℕ, ◌+◌, ◌<◌}
use Rattle.song_model.specs.declared.tables.TableName.TheVariants.{Wave}
use Rattle.song_model.specs.declared.songs.Song.{Song}
use Rattle.song_model.specs.LookUp.{table_row}
use Rattle.play_model.specs.Reached.{IsReached}

-- row p is come to, and has the command with this right side; 15 would be a jump
pub record RowCommands (song : Song) (p c d : ℕ) : Type 0 where
  pub reached : IsReached song Wave p
  pub command : c < 15
  pub left : (table_row song Wave p).left ≡ 0xF0 + c
  pub right : (table_row song Wave p).right ≡ d

-- some row that is come to has the command with this right side
pub record IsWaveCommand (song : Song) (c d : ℕ) : Type 0 where
  pub p : ℕ
  pub has : RowCommands song p c d
