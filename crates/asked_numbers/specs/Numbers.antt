-- Which numbers of the frequency table a song asks for: its notes, as the rows of its wave table and its slides turn
-- them into numbers, and the ends of half tones. A number above 95 stands for no frequency. This is this project's
-- profile of the GoatTracker 2 readme's notes, transposes, wave table and speed table.
use Rattle.std.specs.Prelude.{◌≡◌, ◌≢◌, ℕ, ◌+◌, ◌%◌, ◌≤◌, ◌⊎◌, ℤ, pos, ◌-ℤ◌, true, false, Contains}
use Rattle.song_model.specs.declared.rows.Row.{Row}
use Rattle.song_model.specs.declared.orders.Order.{Order}
use Rattle.song_model.specs.declared.features.Feature.TheVariants.{NoteDependent}
use Rattle.song_model.specs.declared.tables.TableName.TheVariants.{Wave}
use Rattle.song_model.specs.declared.songs.Song.{Song}
use Rattle.song_model.specs.Endless.{IsPatternByte}
use Rattle.song_model.specs.LookUp.{table_row, pattern_at}
use Rattle.play_model.specs.Wrap.{byte_minus}
use Rattle.play_model.specs.WaveStep.{is_wave_command, wave_note}
use Rattle.play_model.specs.FetchRow.{is_note, transposed}
use Rattle.play_model.specs.Used.{IsPlayedOrder}
use Rattle.play_model.specs.Reached.{IsStep}
use Rattle.play_model.specs.Features.{HasRow, UsesCommand, IsAny, HasFeature}

-- ---- notes

-- an entry from $E0 up sets this transpose
pub record SetsTranspose (order : Order) (transpose : ℤ) : Type 0 where
  pub byte : ℕ
  pub entry : Contains order.entries byte
  pub from : 0xE0 ≤ byte
  pub sets : transpose ≡ pos byte -ℤ pos 0xF0

-- an orderlist begins with no transpose, and has those that its entries set
abbrev pub IsTransposeOf : Order → ℤ → Type 0
IsTransposeOf order transpose = (transpose ≡ pos 0) ⊎ SetsTranspose order transpose

-- A note of a pattern, by a transpose of an orderlist that names the pattern: not only by the one in force where it is
-- named. Notes count half tones from C-0, and those below it are bytes from 240 on.
pub record IsPlayedNote (song : Song) (note : ℕ) : Type 0 where
  pub order : Order
  pub played : IsPlayedOrder song order
  pub pattern : ℕ
  pub entry : Contains order.entries pattern
  pub is_pattern : IsPatternByte pattern
  pub row : Row
  pub has : Contains (pattern_at song pattern) row
  pub plays : is_note row.note ≡ true
  pub transpose : ℤ
  pub by : IsTransposeOf order transpose
  pub note_is : note ≡ byte_minus (transposed row.note transpose) 0x60

-- Before a voice has started a note, two commands of rows ask for the note that it has then: 3 slides to it, and 8
-- begins a wave program.
abbrev pub AsksBeforeNotes : Song → Type 0
AsksBeforeNotes song = HasRow song 3 IsAny ⊎ HasRow song 8 IsAny

-- a note whose frequency may be asked for: one that is played, or note 0, with which each voice begins
pub data IsSoundingNote (song : Song) (note : ℕ) : Type 0 where
  of_pattern : IsPlayedNote song note → IsSoundingNote song note
  of_start : note ≡ 0 → AsksBeforeNotes song → IsSoundingNote song note

-- ---- numbers

-- a row of the wave table that programs stay at sets a number: it is no command, and $80 keeps the number that there is
pub record SetsNumber (song : Song) (p : ℕ) : Type 0 where
  pub step : IsStep song Wave p
  pub no_command : is_wave_command (table_row song Wave p) ≡ false
  pub sets : (table_row song Wave p).right ≢ 0x80

-- command 3, of a row or of the wave table, slides to the note
abbrev pub SlidesToNote : Song → Type 0
SlidesToNote song = UsesCommand song 3 IsAny

-- the number of a note as it sounds
pub data IsSoundedNumber (song : Song) (n : ℕ) : Type 0 where
  of_wave_row : (p note : ℕ) → SetsNumber song p → IsSoundingNote song note →
      n ≡ wave_note (table_row song Wave p).right note → IsSoundedNumber song n
  of_slide : (note : ℕ) → SlidesToNote song → IsSoundingNote song note → n ≡ note % 128 → IsSoundedNumber song n

-- the number that sounded last, and 0 before there was one
abbrev pub IsLastNumber : Song → ℕ → Type 0
IsLastNumber song n = (n ≡ 0) ⊎ IsSoundedNumber song n

-- A number that the song asks for: one as it sounds, and where speeds are taken from half tones both ends of the half
-- tone at the last number.
pub data IsAskedNumber (song : Song) (n : ℕ) : Type 0 where
  sounded : IsSoundedNumber song n → IsAskedNumber song n
  half_tone_from : HasFeature song NoteDependent → IsLastNumber song n → IsAskedNumber song n
  half_tone_to : (last : ℕ) → HasFeature song NoteDependent → IsLastNumber song last → n ≡ last + 1 →
      IsAskedNumber song n
