-- What stands at a number, with zeros where nothing is stored.
use Rattle.std.specs.Prelude.{ℕ, ◌-◌, ◌≤◌, Bool, not, ◌&&◌, ◌==◌, List, [], length, replicate}
use Rattle.std.specs.Prelude.{filter, Option, if◌then◌else◌, slice_get, slice_index_or}
use Rattle.song_model.specs.declared.rows.Row.{Row}
use Rattle.song_model.specs.declared.orders.Order.{Order}
use Rattle.song_model.specs.declared.orders.Subtune.{Subtune}
use Rattle.song_model.specs.declared.instruments.Instrument.{Instrument}
use Rattle.song_model.specs.declared.tables.TableRow.{TableRow}
use Rattle.song_model.specs.declared.tables.TableName.{TableName}
use Rattle.song_model.specs.declared.tables.TableName.TheVariants.{Wave, Pulse, Filter, Speed}
use Rattle.song_model.specs.declared.songs.Song.{Song}

-- item n of a list that is counted from 1, and this item where none is stored
abbrev pub numbered : {X : Type 0} → List X → ℕ → X → X
numbered items n zero_item = if n == 0 then zero_item else slice_index_or items (n - 1) zero_item

-- an item with this number is stored
pub record IsNumbered {X : Type 0} (items : List X) (n : ℕ) : Type 0 where
  pub first : 1 ≤ n
  pub last : n ≤ length items

abbrev pub zero_instrument : Instrument
zero_instrument = record {
  ad = 0;
  sr = 0;
  wave = 0;
  pulse = 0;
  filter = 0;
  vibrato = 0;
  vibrato_delay = 0;
  gate_timer = 0;
  first_wave = 0;
  name = replicate 16 0;
}

unfoldable pub instrument_at : Song → ℕ → Instrument
instrument_at song n = numbered song.instruments n zero_instrument

abbrev pub zero_table_row : TableRow
zero_table_row = record { left = 0; right = 0 }

abbrev pub table_of : Song → TableName → List TableRow
table_of song Wave = song.wave
table_of song Pulse = song.pulse
table_of song Filter = song.filter
table_of song Speed = song.speed

-- the song with this table in place of the one of that name
abbrev pub with_table : Song → TableName → List TableRow → Song
with_table song Wave table = record song { wave = table }
with_table song Pulse table = record song { pulse = table }
with_table song Filter table = record song { filter = table }
with_table song Speed table = record song { speed = table }

unfoldable pub table_row : Song → TableName → ℕ → TableRow
table_row song name p = numbered (table_of song name) p zero_table_row

-- the speed table is read at any number
abbrev pub speed_row : Song → ℕ → TableRow
speed_row song p = table_row song Speed p

-- patterns are counted from 0; one that isn't stored has no rows
unfoldable pub pattern_at : Song → ℕ → List Row
pattern_at song n = slice_index_or song.patterns n []

abbrev pub zero_row : Row
zero_row = record { note = 0; instrument = 0; command = 0; param = 0 }

-- rows are counted from 0
abbrev pub pattern_row : List Row → ℕ → Row
pattern_row rows place = slice_index_or rows place zero_row

-- the orderlist of channel 1, 2 or 3
abbrev pub order_of : ℕ → Subtune → Order
order_of channel subtune =
    if channel == 1 then subtune.one else if channel == 2 then subtune.two else subtune.three

-- an orderlist, and a subtune, with nothing in it
abbrev pub void_order : Order
void_order = record { entries = []; restart = 0 }

abbrev pub void_subtune : Subtune
void_subtune = record { one = void_order; two = void_order; three = void_order }

abbrev pub has_entries : Order → Bool
has_entries order = not (length order.entries == 0)

-- none of its three orderlists is empty
abbrev pub is_playable_subtune : Subtune → Bool
is_playable_subtune subtune =
    has_entries subtune.one && has_entries subtune.two && has_entries subtune.three

abbrev pub playable_subtunes : Song → List Subtune
playable_subtunes song = filter is_playable_subtune song.subtunes

-- playable subtune k, counted from 0
unfoldable pub playable_subtune : Song → ℕ → Option Subtune
playable_subtune song k = slice_get (playable_subtunes song) k
