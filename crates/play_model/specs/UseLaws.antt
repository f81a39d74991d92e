-- Laws of what a song uses: what a playable song comes to is there, its programs never leave their
-- tables, what isn't used doesn't count, and a song is refused for one thing.
use Rattle.std.specs.Prelude.{◌≡◌, ◌≢◌, ℕ, ◌<◌, ◌⊎◌, ◌↔◌, false, [], length, Some}
use Rattle.song_model.specs.declared.orders.Order.{Order}
use Rattle.song_model.specs.declared.features.Feature.{Feature}
use Rattle.song_model.specs.declared.tables.TableName.{TableName}
use Rattle.song_model.specs.declared.tables.TableName.TheVariants.{Wave, Speed}
use Rattle.song_model.specs.declared.songs.Song.{Song}
use Rattle.song_model.specs.Endless.{IsEndless}
use Rattle.song_model.specs.Limits.{KeepsLimits}
use Rattle.song_model.specs.LookUp.{IsNumbered, table_of, table_row, speed_row, pattern_at, instrument_at, playable_subtunes}
use Rattle.play_model.specs.declared.unplayable.Unplayable.{Unplayable}
use Rattle.play_model.specs.LookUps.{look_ups_of}
use Rattle.play_model.specs.Helpers.{next_row}
use Rattle.play_model.specs.Used.{IsPlayedOrder, IsUsedPattern, IsUsedInstrument}
use Rattle.play_model.specs.Reached.{is_last, led_to, IsWaveRowPointer, IsReached, IsPointer, IsStep}
use Rattle.play_model.specs.Playable.{HasPrograms, IsJumpTarget, IsRefusedFor, IsPlayable}
use Rattle.play_model.specs.Features.{HasFeature}

-- ---- a playable song

-- what a playable song comes to is stored, its orderlists go on for ever, and neither a pointer nor
-- a jump names a jump
pub record IsWhole (song : Song) : Type 0 where
  pub subtune : playable_subtunes song ≢ []
  pub pattern : (n : ℕ) → IsUsedPattern song n → n < length song.patterns
  pub order : (order : Order) → IsPlayedOrder song order → IsEndless order
  pub row : (name : TableName) (p : ℕ) → HasPrograms name → IsReached song name p →
      IsNumbered (table_of song name) p
  pub pointer : (name : TableName) (p : ℕ) → IsPointer song name p → IsStep song name p
  pub target : (name : TableName) (p : ℕ) → IsJumpTarget song name p → IsStep song name p

-- a program that doesn't end at its row goes on to a row that isn't a jump, or stops
abbrev pub GoesOnOrStops : Song → TableName → ℕ → Type 0
GoesOnOrStops song name p =
    (next_row (look_ups_of song) name p ≡ 0) ⊎ IsStep song name (next_row (look_ups_of song) name p)

abbrev pub PlayableSongsAreWhole : Type 0
PlayableSongsAreWhole = (song : Song) → IsPlayable song → IsWhole song

-- within the limits of the format a row's number is a byte
abbrev pub ReachedRowsAreBytes : Type 0
ReachedRowsAreBytes =
    (song : Song) (name : TableName) (p : ℕ) → KeepsLimits song → IsPlayable song →
    HasPrograms name → IsReached song name p → p < 256

abbrev pub ProgramsStayInTheirTables : Type 0
ProgramsStayInTheirTables =
    (song : Song) (name : TableName) (p : ℕ) → KeepsLimits song → IsPlayable song →
    HasPrograms name → IsStep song name p → is_last name (table_row song name p) ≡ false →
    GoesOnOrStops song name p

-- ---- any song

-- the reached rows are closed under what they lead to
pub record RowsAreClosed (song : Song) : Type 0 where
  pub some : (name : TableName) (p : ℕ) → IsReached song name p → p ≢ 0
  pub pointer : (name : TableName) (p : ℕ) → IsPointer song name p → IsReached song name p
  pub led : (name : TableName) (p q : ℕ) → IsReached song name p →
      led_to name (table_of song name) p ≡ Some q → IsReached song name q
  pub target : (name : TableName) (p : ℕ) → IsJumpTarget song name p → IsReached song name p
  pub speed : (p : ℕ) → IsReached song Speed p ↔ IsPointer song Speed p
  pub wave : (r p : ℕ) → ¬ IsWaveRowPointer song r Wave p

abbrev pub ReachedRowsAreClosed : Type 0
ReachedRowsAreClosed = (song : Song) → RowsAreClosed song

-- a song is refused for one thing, and then it can't be played
abbrev pub SongsAreRefusedForOneThing : Type 0
SongsAreRefusedForOneThing =
    (song : Song) (a b : Unplayable) → IsRefusedFor song a → IsRefusedFor song b → a ≡ b

abbrev pub RefusedSongsAreNotPlayable : Type 0
RefusedSongsAreNotPlayable =
    (song : Song) (a : Unplayable) → IsRefusedFor song a → ¬ IsPlayable song

-- ---- what isn't used

-- the other song plays the same orderlists, and has the same under each number that the song uses
pub record AgreesOnUsed (song other : Song) : Type 0 where
  pub subtunes : playable_subtunes other ≡ playable_subtunes song
  pub pattern : (n : ℕ) → IsUsedPattern song n → pattern_at other n ≡ pattern_at song n
  pub instrument : (i : ℕ) → IsUsedInstrument song i →
      instrument_at other i ≡ instrument_at song i
  pub stored : (name : TableName) (p : ℕ) → HasPrograms name → IsReached song name p →
      IsNumbered (table_of other name) p
  pub row : (name : TableName) (p : ℕ) → HasPrograms name → IsReached song name p →
      table_row other name p ≡ table_row song name p
  pub speed : (p : ℕ) → IsPointer song Speed p → speed_row other p ≡ speed_row song p

-- the two songs use the same parts and have the same features
pub record UsesTheSame (song other : Song) : Type 0 where
  pub pattern : (n : ℕ) → IsUsedPattern song n ↔ IsUsedPattern other n
  pub instrument : (i : ℕ) → IsUsedInstrument song i ↔ IsUsedInstrument other i
  pub pointer : (name : TableName) (p : ℕ) → IsPointer song name p ↔ IsPointer other name p
  pub row : (name : TableName) (p : ℕ) → IsReached song name p ↔ IsReached other name p
  pub feature : (feature : Feature) → HasFeature song feature ↔ HasFeature other feature

abbrev pub UnusedPartsDoNotCount : Type 0
UnusedPartsDoNotCount =
    (song other : Song) → IsPlayable song → AgreesOnUsed song other → UsesTheSame song other
