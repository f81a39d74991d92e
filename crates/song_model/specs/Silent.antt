-- Silent songs: one subtune that plays rests and nothing else.
use Rattle.std.specs.Prelude.{◌≡◌, ℕ, ◌<◌, List, [], length, slice_get, All, Contains, Some}
use Rattle.song_model.specs.declared.rows.Row.{Row}
use Rattle.song_model.specs.declared.orders.Order.{Order}
use Rattle.song_model.specs.declared.orders.Subtune.{Subtune}
use Rattle.song_model.specs.declared.songs.Song.{Song}

-- a rest that names no instrument and no command; its parameter is free
pub record IsSilentRow (row : Row) : Type 0 where
  pub note : row.note ≡ 0xBD
  pub instrument : row.instrument ≡ 0
  pub command : row.command ≡ 0

-- an orderlist of pattern numbers alone, each of a stored pattern, that goes on at one of its entries
pub record IsSilentOrder (patterns : List (List Row)) (order : Order) : Type 0 where
  pub entry : 0 < length order.entries
  pub plain : All (λ byte. byte < 0xD0) order.entries
  pub stored : All (λ byte. byte < length patterns) order.entries
  pub restart : order.restart < length order.entries
  pub rows : (byte : ℕ) (rows : List Row) → Contains order.entries byte →
      slice_get patterns byte ≡ Some rows → All IsSilentRow rows

pub record IsSilentSubtune (patterns : List (List Row)) (subtune : Subtune) : Type 0 where
  pub one : IsSilentOrder patterns subtune.one
  pub two : IsSilentOrder patterns subtune.two
  pub three : IsSilentOrder patterns subtune.three

-- one silent subtune, no instrument, no row in any table
pub record IsSilent (song : Song) : Type 0 where
  pub one_subtune : length song.subtunes ≡ 1
  pub subtunes : All (IsSilentSubtune song.patterns) song.subtunes
  pub instruments : song.instruments ≡ []
  pub wave : song.wave ≡ []
  pub pulse : song.pulse ≡ []
  pub filter : song.filter ≡ []
  pub speed : song.speed ≡ []
