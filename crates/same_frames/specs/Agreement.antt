-- When other look-ups are as good as a song's own: on all that the song comes to, they agree with it up to new numbers.
use Rattle.std.specs.Prelude.{◌≡◌, ◌≢◌, ℕ, ◌+◌, ◌≤◌, false, Contains}
use Rattle.base.specs.Bytes.{IsByte}
use Rattle.song_model.specs.declared.orders.Order.{Order}
use Rattle.song_model.specs.declared.orders.Subtune.{Subtune}
use Rattle.song_model.specs.declared.tables.TableName.{TableName}
use Rattle.song_model.specs.declared.tables.TableName.TheVariants.{Speed}
use Rattle.song_model.specs.declared.songs.Song.{Song}
use Rattle.song_model.specs.Walk.{played}
use Rattle.song_model.specs.LookUp.{zero_table_row, table_row, instrument_at, pattern_at, order_of}
use Rattle.play_model.specs.LookUps.{LookUps}
use Rattle.play_model.specs.Used.{IsChannel, IsUsedPattern, IsUsedInstrument}
use Rattle.play_model.specs.Reached.{is_jump, is_last, IsReached}
use Rattle.play_model.specs.Playable.{HasPrograms}
use Rattle.same_frames.specs.Maps.{Maps, moved_row, IsInstrumentFor, IsPatternFor, moved_step}

-- the rows of a table that the song comes to
pub record RowsAgree (maps : Maps) (song : Song) (other : LookUps) (name : TableName) : Type 0 where
  -- 0, which names none, stays 0, and no row gets the number 0
  pub nothing : maps.row name 0 ≡ 0
  pub some : (p : ℕ) → IsReached song name p → maps.row name p ≢ 0
  pub row : (p : ℕ) → IsReached song name p →
      other.row name (maps.row name p) ≡ moved_row maps name (table_row song name p)

-- where programs go on
pub record ProgramsAgree (maps : Maps) (song : Song) (name : TableName) : Type 0 where
  pub small : (p : ℕ) → IsReached song name p → IsByte (maps.row name p)
  -- the row after a row's stand-in stands for the row after it, but behind a jump, and where the program ends
  pub next : (p : ℕ) → IsReached song name p → is_jump name (table_row song name p) ≡ false →
      is_last name (table_row song name p) ≡ false → maps.row name (p + 1) ≡ maps.row name p + 1

-- the instruments that the song uses
pub record InstrumentsAgree (maps : Maps) (song : Song) (other : LookUps) : Type 0 where
  pub nothing : maps.instrument 0 ≡ 0
  pub some : (i : ℕ) → IsUsedInstrument song i → maps.instrument i ≢ 0
  pub stands_for : (i : ℕ) → IsUsedInstrument song i →
      IsInstrumentFor maps (instrument_at song i) (other.instrument (maps.instrument i))

pub record Agrees (maps : Maps) (song : Song) (other : LookUps) : Type 0 where
  pub rows : (name : TableName) → RowsAgree maps song other name
  pub programs : (name : TableName) → HasPrograms name → ProgramsAgree maps song name
  -- a slide with parameter 0 has no speed
  pub no_speed : other.row Speed 0 ≡ zero_table_row
  pub instruments : InstrumentsAgree maps song other
  pub patterns : (n : ℕ) → IsUsedPattern song n → IsPatternFor maps (pattern_at song n) (other.rows (maps.pattern n))

-- the other orderlist plays the same patterns under their new numbers, with the same transposes
abbrev pub PlaysFor : Maps → Order → Order → Type 0
PlaysFor maps order other = (i : ℕ) → played other i ≡ moved_step maps (played order i)

-- so does each channel of the other subtune
abbrev pub SubtunePlaysFor : Maps → Subtune → Subtune → Type 0
SubtunePlaysFor maps subtune other =
    (channel : ℕ) → IsChannel channel → PlaysFor maps (order_of channel subtune) (order_of channel other)

-- the other subtune's orderlists have only repeats and transposes that the subtune's have
abbrev pub AddsNoOrderByte : Subtune → Subtune → Type 0
AddsNoOrderByte subtune other =
    (channel byte : ℕ) → IsChannel channel → 0xD0 ≤ byte → Contains (order_of channel other).entries byte →
    Contains (order_of channel subtune).entries byte
