-- Whether a note is played before any row names an instrument.
use Rattle.std.specs.Prelude.{ℕ, ◌-◌, ◌≤◌, length}
use Rattle.song_model.specs.declared.orders.Order.{Order}
use Rattle.song_model.specs.declared.songs.Song.{Song}
use Rattle.song_model.specs.LookUp.{order_of, playable_subtunes}
use Rattle.play_model.specs.LookUps.{look_ups_of}
use Rattle.play_model.specs.Frame.{subtune_at}
use Rattle.play_model.specs.Used.{IsChannel}
use Rattle.same_frames.specs.Begins.{BeginsUnnamed as BeginsUnnamedIn}
pub use Rattle.same_frames.specs.Begins.{is_opening, opening}

-- in an orderlist of a song
abbrev pub BeginsUnnamed : Song → Order → Type 0
BeginsUnnamed song order = BeginsUnnamedIn (look_ups_of song) order

-- so it is in this channel of playable subtune s, counted from 1
pub record IsUnnamedAt (song : Song) (s channel : ℕ) : Type 0 where
  pub first : 1 ≤ s
  pub last : s ≤ length (playable_subtunes song)
  pub is_channel : IsChannel channel
  pub begins : BeginsUnnamed song (order_of channel (subtune_at song (s - 1)))

-- in each channel of each playable subtune a row names an instrument before a note is played, or with it
abbrev pub NamesFirst : Song → Type 0
NamesFirst song = (s channel : ℕ) → ¬ IsUnnamedAt song s channel
