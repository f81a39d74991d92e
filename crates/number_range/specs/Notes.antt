-- The notes that orderlists play, modulo 128: no number that is asked for hangs on more of them.
use Rattle.std.specs.Prelude.{◌≡◌, ℕ, ◌+◌, ◌-◌, ◌%◌, ◌≤◌, ◌⊎◌, true, ℤ, List, slice_index_or, Any, Contains}
use Rattle.song_model.specs.declared.rows.Row.{Row}
use Rattle.song_model.specs.declared.orders.Order.{Order}
use Rattle.song_model.specs.declared.orders.Subtune.{Subtune}
use Rattle.song_model.specs.declared.songs.Song.{Song}
use Rattle.song_model.specs.Endless.{IsPatternByte}
use Rattle.song_model.specs.LookUp.{pattern_at, order_of, is_playable_subtune}
use Rattle.play_model.specs.Wrap.{byte_minus}
use Rattle.play_model.specs.FetchRow.{is_note, transposed}
use Rattle.play_model.specs.Used.{IsChannel}
use Rattle.asked_numbers.specs.Numbers.{IsTransposeOf, IsPlayedNote, IsSoundingNote}
use Rattle.number_range.specs.Sets.{IsSetOf}
use Rattle.number_range.specs.declared.sets.NumberSet.{NumberSet}

-- ---- rows and entries

-- the note of a row, from the lowest
abbrev pub HasNote : Row → ℕ → Type 0
HasNote row n = (is_note row.note ≡ true) × (n ≡ row.note - 0x60)

-- that of some row
abbrev pub HaveNote : List Row → ℕ → Type 0
HaveNote rows n = Any (λ row. HasNote row n) rows

-- the empty set
abbrev pub no_numbers : NumberSet
no_numbers = record { bits = 0 }

-- the sets are those of each pattern's notes
pub record ArePatternNotes (song : Song) (notes : List NumberSet) : Type 0 where
  pub each : (n : ℕ) → IsPatternByte n → IsSetOf (HaveNote (pattern_at song n)) (slice_index_or notes n no_numbers)

-- an entry of an orderlist names a pattern with this note
abbrev pub NamesNote : Song → ℕ → ℕ → Type 0
NamesNote song byte n = IsPatternByte byte × HaveNote (pattern_at song byte) n

-- an entry from $E0 up transposes by as many half tones as it is above $F0; modulo 128 that is $10 and the entry
abbrev pub TransposesBy : ℕ → ℕ → Type 0
TransposesBy byte n = (0xE0 ≤ byte) × (n ≡ (byte + 0x10) % 128)

-- some entry does, beside no transpose
abbrev pub TransposeBy : List ℕ → ℕ → Type 0
TransposeBy entries n = (n ≡ 0) ⊎ Any (λ byte. TransposesBy byte n) entries

-- ---- orderlists

-- a note that an orderlist plays
pub record IsOrderNote (song : Song) (order : Order) (n : ℕ) : Type 0 where
  pub pattern : ℕ
  pub entry : Contains order.entries pattern
  pub is_pattern : IsPatternByte pattern
  pub row : Row
  pub has : Contains (pattern_at song pattern) row
  pub plays : is_note row.note ≡ true
  pub transpose : ℤ
  pub by : IsTransposeOf order transpose
  pub is : n ≡ byte_minus (transposed row.note transpose) 0x60 % 128

-- one that an orderlist of this subtune plays, if the subtune is playable
pub record IsSubtuneNote (song : Song) (subtune : Subtune) (n : ℕ) : Type 0 where
  pub playable : is_playable_subtune subtune ≡ true
  pub channel : ℕ
  pub is_channel : IsChannel channel
  pub note : IsOrderNote song (order_of channel subtune) n

-- ---- songs

-- a note that the song plays, and one that may sound
pub record IsPlayedWithin (song : Song) (n : ℕ) : Type 0 where
  pub note : ℕ
  pub played : IsPlayedNote song note
  pub is : n ≡ note % 128

pub record IsSoundingWithin (song : Song) (n : ℕ) : Type 0 where
  pub note : ℕ
  pub sounds : IsSoundingNote song note
  pub is : n ≡ note % 128
