-- What a song makes use of: the orderlists, patterns, rows and instruments that may come to be played.
-- This is this project's profile of the GoatTracker 2 readme: a subtune with an empty orderlist isn't
-- played, and the restart position isn't an entry.
use Rattle.std.specs.Prelude.{◌≡◌, ◌≢◌, ℕ, ◌≤◌, ◌⊎◌, Contains}
use Rattle.song_model.specs.declared.rows.Row.{Row}
use Rattle.song_model.specs.declared.orders.Order.{Order}
use Rattle.song_model.specs.declared.orders.Subtune.{Subtune}
use Rattle.song_model.specs.declared.songs.Song.{Song}
use Rattle.song_model.specs.LookUp.{pattern_at, order_of, playable_subtunes}
use Rattle.song_model.specs.Endless.{IsPatternByte}

-- channels count from 1
pub record IsChannel (channel : ℕ) : Type 0 where
  pub first : 1 ≤ channel
  pub last : channel ≤ 3

-- an orderlist of a playable subtune
pub record IsPlayedOrder (song : Song) (order : Order) : Type 0 where
  pub subtune : Subtune
  pub playable : Contains (playable_subtunes song) subtune
  pub channel : ℕ
  pub is_channel : IsChannel channel
  pub order_is : order ≡ order_of channel subtune

-- such an orderlist has this byte, before its endmark
pub record IsPlayedByte (song : Song) (byte : ℕ) : Type 0 where
  pub order : Order
  pub played : IsPlayedOrder song order
  pub entry : Contains order.entries byte

-- an orderlist names the pattern
pub record IsUsedPattern (song : Song) (pattern : ℕ) : Type 0 where
  pub byte : IsPlayedByte song pattern
  pub is_pattern : IsPatternByte pattern

-- a row of such a pattern
pub record IsUsedRow (song : Song) (row : Row) : Type 0 where
  pub pattern : ℕ
  pub used : IsUsedPattern song pattern
  pub has : Contains (pattern_at song pattern) row

-- such a row names the instrument; 0 names none
pub record IsNamedInstrument (song : Song) (instrument : ℕ) : Type 0 where
  pub row : Row
  pub used : IsUsedRow song row
  pub names : row.instrument ≡ instrument
  pub some : instrument ≢ 0

-- each voice begins with instrument 1
abbrev pub IsUsedInstrument : Song → ℕ → Type 0
IsUsedInstrument song instrument = (instrument ≡ 1) ⊎ IsNamedInstrument song instrument
