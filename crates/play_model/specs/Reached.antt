-- Which rows of the tables a song comes to: those that its pointers name, and those that a program goes
-- on to from there. Rows count from 1. This is this project's profile of the GoatTracker 2 readme.
use Rattle.std.specs.Prelude.{◌≡◌, ◌≢◌, ℕ, ◌+◌, ◌==◌, nat_le, Bool, true, false, ◌&&◌}
use Rattle.std.specs.Prelude.{if◌then◌else◌}
use Rattle.std.specs.Prelude.{List, length, Option, Some, None}
use Rattle.song_model.specs.declared.rows.Row.{Row}
use Rattle.song_model.specs.declared.tables.TableRow.{TableRow}
use Rattle.song_model.specs.declared.tables.TableName.{TableName}
use Rattle.song_model.specs.declared.tables.TableName.TheVariants.{Wave, Pulse, Filter, Speed}
use Rattle.song_model.specs.declared.songs.Song.{Song}
use Rattle.song_model.specs.LookUp.{numbered, zero_table_row, table_of, table_row, instrument_at}
use Rattle.song_model.specs.Pointers.{instrument_pointer, command_table, wave_row_table}
use Rattle.play_model.specs.Used.{IsUsedRow, IsUsedInstrument}

-- ---- programs

-- a left side of $FF is a jump; the rows of the speed table are no programs
abbrev pub is_jump : TableName → TableRow → Bool
is_jump Wave row = row.left == 0xFF
is_jump Pulse row = row.left == 0xFF
is_jump Filter row = row.left == 0xFF
is_jump Speed row = false

-- a pulse program stops at a left side of 0, and a row of the speed table stands alone
abbrev pub is_last : TableName → TableRow → Bool
is_last Wave row = false
is_last Pulse row = row.left == 0
is_last Filter row = false
is_last Speed row = true

-- the row that a program goes on to after row p: a jump names it, and 0 names none
abbrev pub row_led_to : TableName → TableRow → ℕ → Option ℕ
row_led_to name row p =
    if is_jump name row then (if row.right == 0 then None else Some row.right)
    else if is_last name row then None
    else Some (p + 1)

abbrev pub is_stored : List TableRow → ℕ → Bool
is_stored rows p = nat_le 1 p && nat_le p (length rows)

-- from a row that isn't stored a program goes nowhere
abbrev pub led_to : TableName → List TableRow → ℕ → Option ℕ
led_to name rows p =
    if is_stored rows p then row_led_to name (numbered rows p zero_table_row) p else None

-- ---- pointers

-- what a used instrument, or a command of a row of a used pattern, points at; 0 points at nothing
pub data IsPlayedPointer (song : Song) (name : TableName) (p : ℕ) : Type 0 where
  of_instrument : (i : ℕ) → IsUsedInstrument song i → instrument_pointer name (instrument_at song i) ≡ p → p ≢ 0 →
      IsPlayedPointer song name p
  of_row : (row : Row) → IsUsedRow song row → command_table row.command ≡ Some name → row.param ≡ p → p ≢ 0 →
      IsPlayedPointer song name p

-- what row r of the wave table points at
pub record IsWaveRowPointer (song : Song) (r : ℕ) (name : TableName) (p : ℕ) : Type 0 where
  pub table : wave_row_table (table_row song Wave r).left ≡ Some name
  pub right : (table_row song Wave r).right ≡ p
  pub some : p ≢ 0

-- ---- rows

-- the least set: what is pointed at, by what is played or by a reached row of the wave table, and what a
-- reached row leads to
pub data IsReached (song : Song) : TableName → ℕ → Type 0 where
  played : {name : TableName} {p : ℕ} → IsPlayedPointer song name p → IsReached song name p
  pointed : {name : TableName} {p : ℕ} (r : ℕ) → IsReached song Wave r → IsWaveRowPointer song r name p →
      IsReached song name p
  led : {name : TableName} {q : ℕ} (p : ℕ) → IsReached song name p → led_to name (table_of song name) p ≡ Some q →
      IsReached song name q

-- a used pointer into a table
pub data IsPointer (song : Song) (name : TableName) (p : ℕ) : Type 0 where
  of_played : IsPlayedPointer song name p → IsPointer song name p
  of_wave_row : (r : ℕ) → IsReached song Wave r → IsWaveRowPointer song r name p → IsPointer song name p

-- a reached row that isn't a jump: a row that a program stays at
pub record IsStep (song : Song) (name : TableName) (p : ℕ) : Type 0 where
  pub reached : IsReached song name p
  pub no_jump : is_jump name (table_row song name p) ≡ false
