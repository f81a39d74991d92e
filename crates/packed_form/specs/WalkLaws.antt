-- What a reader may rely on in the way from a place of an orderlist to a pattern.
use Rattle.std.specs.Prelude.{◌≡◌, ℕ, ◌+◌, ◌<◌, ◌≤◌, length, All, Contains, slice_index}
use Rattle.song_model.specs.declared.orders.Order.{Order}
use Rattle.song_model.specs.declared.orders.TheConstants.{MOST_ENTRIES}
use Rattle.song_model.specs.LookUp.{order_of}
use Rattle.song_model.specs.Endless.{IsPatternByte, IsEndless}
use Rattle.play_model.specs.Used.{IsChannel}
use Rattle.packed_form.specs.declared.packed_songs.PackedSubtune.{PackedSubtune}
use Rattle.packed_form.specs.declared.packed_songs.PackedSong.{PackedSong}
use Rattle.packed_form.specs.Unpacked.{unpacked_subtune}
use Rattle.packed_form.specs.WalkCount.{looks_from, walk_count}

-- an orderlist of the packed song, unpacked
pub record IsOrderOf (packed : PackedSong) (order : Order) : Type 0 where
  pub subtune : PackedSubtune
  pub stored : Contains packed.subtunes subtune
  pub channel : ℕ
  pub is_channel : IsChannel channel
  pub order_is : order ≡ order_of channel (unpacked_subtune subtune)

-- one look after the other: nothing is passed at a pattern's number, at another entry one more than from the next place
-- on, and at the endmark one more than from the restart position on
pub record LooksGoOn (order : Order) : Type 0 where
  pub pattern : (place : ℕ) → place < length order.entries → IsPatternByte (slice_index order.entries place) →
      looks_from order place ≡ 0
  pub other : (place : ℕ) → place < length order.entries → 0xD0 ≤ slice_index order.entries place →
      looks_from order place ≡ 1 + looks_from order (place + 1)
  pub endmark : looks_from order (length order.entries) ≡ 1 + looks_from order order.restart

-- so a walk from any place comes to a pattern's number within this count of looks
pub record WalkEnds (count : ℕ) (order : Order) : Type 0 where
  pub goes_on : LooksGoOn order
  pub within : (place : ℕ) → place ≤ length order.entries → looks_from order place < count

-- each orderlist of a packed song that goes on for ever is walked within the song's count
abbrev pub WalksEnd : Type 0
WalksEnd = (packed : PackedSong) (order : Order) → IsOrderOf packed order → IsEndless order →
    WalkEnds (walk_count packed) order

-- an orderlist that goes on for ever and is no longer than it may be
pub record IsEndlessAndShort (order : Order) : Type 0 where
  pub endless : IsEndless order
  pub short : length order.entries ≤ MOST_ENTRIES

-- the count is a byte where each orderlist is such a one
abbrev pub WalkCountsAreBytes : Type 0
WalkCountsAreBytes = (packed : PackedSong) → ((order : Order) → IsOrderOf packed order → IsEndlessAndShort order) →
    walk_count packed ≤ 255

-- the endmark alone makes it 2
abbrev pub EndmarksCount : Type 0
EndmarksCount = (packed : PackedSong) → 0 < length packed.subtunes → 2 ≤ walk_count packed

-- and no more, where all entries are numbers of patterns
abbrev pub PlainWalksAreTwo : Type 0
PlainWalksAreTwo = (packed : PackedSong) → 0 < length packed.subtunes →
    ((order : Order) → IsOrderOf packed order → All IsPatternByte order.entries) → walk_count packed ≡ 2
