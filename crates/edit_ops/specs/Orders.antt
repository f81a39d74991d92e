-- Edits of orderlists. Subtunes are counted as the file has them, from 1, channels from 1 to 3, and the places of
-- an orderlist from 0.
use Rattle.std.specs.Prelude.{ℕ, ◌-◌, Bool, ◌||◌, ◌==◌, nat_le, nat_lt, List, length, slice_set}
use Rattle.std.specs.Prelude.{if◌then◌else◌}
use Rattle.song_model.specs.declared.orders.Order.{Order}
use Rattle.song_model.specs.declared.orders.Subtune.{Subtune}
use Rattle.song_model.specs.declared.songs.Song.{Song}
use Rattle.song_model.specs.LookUp.{numbered, order_of, void_subtune}

-- ---- places

abbrev pub lacks_subtune : Song → ℕ → Bool
lacks_subtune song subtune = subtune == 0 || nat_lt (length song.subtunes) subtune

abbrev pub lacks_order : Song → ℕ → ℕ → Bool
lacks_order song subtune channel = lacks_subtune song subtune || channel == 0 || nat_lt 3 channel

abbrev pub subtune_at : Song → ℕ → Subtune
subtune_at song subtune = numbered song.subtunes subtune void_subtune

abbrev pub order_at : Song → ℕ → ℕ → Order
order_at song subtune channel = order_of channel (subtune_at song subtune)

-- no entry stands at this place
abbrev pub lacks_entry : Song → ℕ → ℕ → ℕ → Bool
lacks_entry song subtune channel place =
    lacks_order song subtune channel || nat_le (length (order_at song subtune channel).entries) place

-- no entry can be put before this place; at the number of entries it comes last
abbrev pub lacks_entry_gap : Song → ℕ → ℕ → ℕ → Bool
lacks_entry_gap song subtune channel place =
    lacks_order song subtune channel || nat_lt (length (order_at song subtune channel).entries) place

-- ---- limits and values

abbrev pub has_entries : Song → ℕ → ℕ → ℕ → Bool
has_entries song subtune channel n = length (order_at song subtune channel).entries == n

abbrev pub is_endmark : ℕ → Bool
is_endmark entry = entry == 0xFF

-- ---- what is done

-- the subtune with this orderlist on that channel
abbrev pub with_channel : Subtune → ℕ → Order → Subtune
with_channel subtune channel order =
    if channel == 1 then record subtune { one = order }
    else if channel == 2 then record subtune { two = order }
    else record subtune { three = order }

abbrev pub with_order : Song → ℕ → ℕ → Order → Song
with_order song subtune channel order = record song {
  subtunes = slice_set song.subtunes (subtune - 1) (with_channel (subtune_at song subtune) channel order);
}

abbrev pub with_entries : Song → ℕ → ℕ → List ℕ → Song
with_entries song subtune channel entries =
    with_order song subtune channel (record (order_at song subtune channel) { entries = entries })

abbrev pub with_restart : Song → ℕ → ℕ → ℕ → Song
with_restart song subtune channel restart =
    with_order song subtune channel (record (order_at song subtune channel) { restart = restart })
