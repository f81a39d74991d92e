-- The numbers as which notes sound, from the right sides of the wave table.
use Rattle.std.specs.Prelude.{◌≡◌, ◌≢◌, ℕ, ◌%◌, Bool, true, false, nat_le}
use Rattle.song_model.specs.declared.tables.TableRow.{TableRow}
use Rattle.song_model.specs.declared.tables.TableName.TheVariants.{Wave}
use Rattle.song_model.specs.declared.songs.Song.{Song}
use Rattle.song_model.specs.LookUp.{table_row}
use Rattle.play_model.specs.WaveStep.{is_wave_command}
use Rattle.play_model.specs.Reached.{is_jump}
use Rattle.asked_numbers.specs.Numbers.{SetsNumber, SlidesToNote}
use Rattle.number_range.specs.Sets.{Has, HasSome}
use Rattle.number_range.specs.declared.sets.NumberSet.{NumberSet}

-- a row of the wave table that would set a number: no jump, no command, and not $80
pub record MaySetNumber (row : TableRow) : Type 0 where
  pub no_jump : is_jump Wave row ≡ false
  pub no_command : is_wave_command row ≡ false
  pub sets : row.right ≢ 0x80

-- the right side of row p, which sets a number: one of its own from $80 up, or else one to be added
pub record IsSideAt (song : Song) (own : Bool) (p n : ℕ) : Type 0 where
  pub sets : SetsNumber song p
  pub own_is : nat_le 0x80 (table_row song Wave p).right ≡ own
  pub is : n ≡ (table_row song Wave p).right % 128

-- that of some row
pub record IsSide (song : Song) (own : Bool) (n : ℕ) : Type 0 where
  pub p : ℕ
  pub at : IsSideAt song own p n

-- one of a row that has a number of its own, where there are notes to set it
abbrev pub IsOwnNumber : Song → NumberSet → ℕ → Type 0
IsOwnNumber song notes n = HasSome notes × IsSide song true n

-- one of these notes, where command 3 slides to them
abbrev pub IsSlidTo : Song → NumberSet → ℕ → Type 0
IsSlidTo song notes n = SlidesToNote song × Has notes n
