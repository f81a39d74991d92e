-- How many bytes of an orderlist a walk passes on its way to a pattern, from this project's own packed form. The
-- greatest of these numbers in a packed song gives the count of the player's loop.
use Rattle.std.specs.Prelude.{ℕ, ◌+◌, max, Bool, nat_le, List, [], ◌∷◌, ◌++◌, length, drop}
use Rattle.std.specs.List.{fold, prefix_len, range_with_len}
use Rattle.song_model.specs.declared.orders.Order.{Order}
use Rattle.song_model.specs.declared.orders.Subtune.{Subtune}
use Rattle.packed_form.specs.declared.packed_songs.PackedSong.{PackedSong}
use Rattle.packed_form.specs.Unpacked.{unpacked_subtune}

-- a repeat, a transpose or the endmark, and no pattern's number
abbrev pub is_passed : ℕ → Bool
is_passed byte = nat_le 0xD0 byte

-- the bytes on the way from a place: the entries from there on, the endmark, and those from the restart position on
abbrev pub way_from : Order → ℕ → List ℕ
way_from order place = drop place order.entries ++ 0xFF ∷ drop order.restart order.entries

-- how many bytes stand one behind the other on this way in front of the first pattern's number
unfoldable pub looks_from : Order → ℕ → ℕ
looks_from order place = prefix_len is_passed (way_from order place)

-- the greatest number that an item has, or 0 where there is no item
abbrev pub greatest : {X : Type 0} → (X → ℕ) → List X → ℕ
greatest number items = fold (λ most item. max most (number item)) 0 items

-- the most from a place of the orderlist, that of its endmark among them
unfoldable pub most_looks : Order → ℕ
most_looks order = greatest (looks_from order) (range_with_len 0 (length order.entries + 1))

-- the most from a place of an orderlist of the subtune
abbrev pub subtune_looks : Subtune → ℕ
subtune_looks subtune = greatest most_looks (subtune.one ∷ subtune.two ∷ subtune.three ∷ [])

-- one more than the most from a place of an orderlist of the packed song, for the look at the pattern's number itself;
-- 1 where there is no subtune
unfoldable pub walk_count : PackedSong → ℕ
walk_count packed = 1 + greatest (λ subtune. subtune_looks (unpacked_subtune subtune)) packed.subtunes
