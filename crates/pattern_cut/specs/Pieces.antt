-- The pieces of a pattern, and the patterns that stay whole.
use Rattle.std.specs.Prelude.{ℕ, ◌+◌, ◌-◌, ◌*◌, ◌/◌, ◌&&◌, Bool, nat_eq, nat_lt, if◌then◌else◌}
use Rattle.std.specs.Prelude.{List, [], ◌∷◌, ◌++◌, length, map, filter, take, drop}
use Rattle.std.specs.List.{flat_map, list_any, range_with_len}
use Rattle.song_model.specs.declared.rows.Row.{Row}
use Rattle.song_model.specs.declared.orders.Order.{Order}
use Rattle.song_model.specs.declared.orders.Subtune.{Subtune}
use Rattle.song_model.specs.declared.songs.Song.{Song}
use Rattle.song_model.specs.declared.patterns.TheConstants.{MOST_PATTERNS}
use Rattle.song_model.specs.LookUp.{playable_subtunes}
use Rattle.song_model.specs.Walk.{repeat_after, end_repeat}
use Rattle.pattern_cut.specs.declared.lengths.PieceLength.{PieceLength}
use Rattle.pattern_cut.specs.declared.lengths.PieceLength.TheVariants.{Whole, Rows64, Rows32, Rows16, Rows8}

-- ---- pieces

-- the rows of a piece; a pattern has at most 128
abbrev pub rows_of : PieceLength → ℕ
rows_of Whole = 128
rows_of Rows64 = 64
rows_of Rows32 = 32
rows_of Rows16 = 16
rows_of Rows8 = 8

-- piece i of a pattern, counted from 0: its n rows, or the rest, which may be shorter
abbrev pub slice : ℕ → List Row → ℕ → List Row
slice n rows i = take n (drop (i * n) rows)

-- as many as the rows fill, the last one in part
abbrev pub slices : ℕ → List Row → List (List Row)
slices n rows = map (slice n rows) (range_with_len 0 ((length rows + (n - 1)) / n))

-- ---- patterns that a song plays

abbrev pub orders_of : Subtune → List Order
orders_of subtune = subtune.one ∷ subtune.two ∷ subtune.three ∷ []

-- the orderlists of the subtunes that can be played
abbrev pub played_orders : Song → List Order
played_orders song = flat_map orders_of (playable_subtunes song)

-- one of them names the pattern
unfoldable pub is_named : Song → ℕ → Bool
is_named song n = list_any (nat_eq n) (flat_map (λ order. order.entries) (played_orders song))

-- these patterns, in ascending order
unfoldable pub named : Song → List ℕ
named song = filter (is_named song) (range_with_len 0 MOST_PATTERNS)

-- the patterns that stand behind a repeat in a walk along these bytes, begun with this repeat: they are played more than
-- once where they stand
abbrev pub repeated_in : List ℕ → ℕ → List ℕ
repeated_in [] repeat = []
repeated_in (byte ∷ bytes) repeat =
    (if nat_lt byte 0xD0 && nat_lt 0 repeat then byte ∷ [] else []) ++ repeated_in bytes (repeat_after byte repeat)

-- from the start of an orderlist, and from its restart position with the repeat that stands at its end
abbrev pub repeated_of : Order → List ℕ
repeated_of order =
    repeated_in order.entries 0 ++ repeated_in (drop order.restart order.entries) (end_repeat order.entries 0)

-- an orderlist repeats the pattern
unfoldable pub is_repeated : Song → ℕ → Bool
is_repeated song n = list_any (nat_eq n) (flat_map repeated_of (played_orders song))
