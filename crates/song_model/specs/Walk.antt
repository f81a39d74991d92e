-- What an orderlist plays. A walk goes along its entries with a transpose and a repeat; the text is
-- that of the GoatTracker 2 readme, the exact walk is this project's profile.
use Rattle.std.specs.Prelude.{ℕ, ◌+◌, ◌-◌, ◌%◌, ℤ, pos, ◌-ℤ◌, List, [], ◌∷◌, ◌++◌}
use Rattle.std.specs.Prelude.{length, drop, replicate, if◌then◌else◌, nat_lt, slice_index_or}
use Rattle.song_model.specs.declared.orders.Order.{Order}
use Rattle.song_model.specs.declared.orders.Step.{Step}

-- a byte below $D0 is the number of a pattern, one from $D0 to $DF a repeat, one from $E0 a transpose

-- the transpose after a byte: from -16 at $E0 to 14 at $FE
abbrev pub transpose_after : ℕ → ℤ → ℤ
transpose_after byte transpose = if nat_lt byte 0xE0 then transpose else pos byte -ℤ pos 0xF0

-- the repeat after a byte: a pattern uses it up
abbrev pub repeat_after : ℕ → ℕ → ℕ
repeat_after byte repeat =
    if nat_lt byte 0xD0 then 0 else if nat_lt byte 0xE0 then byte - 0xD0 else repeat

-- what a byte plays: a pattern is played once more than the repeat says
abbrev pub plays_of : ℕ → ℤ → ℕ → List Step
plays_of byte transpose repeat =
    if nat_lt byte 0xD0 then replicate (repeat + 1) (record { pattern = byte; transpose = transpose })
    else []

-- what a walk along these bytes plays, begun with this transpose and this repeat
abbrev pub walk_plays : List ℕ → ℤ → ℕ → List Step
walk_plays [] transpose repeat = []
walk_plays (byte ∷ bytes) transpose repeat =
    plays_of byte transpose repeat
    ++ walk_plays bytes (transpose_after byte transpose) (repeat_after byte repeat)

-- the transpose and the repeat at the end of a walk
abbrev pub end_transpose : List ℕ → ℤ → ℤ
end_transpose [] transpose = transpose
end_transpose (byte ∷ bytes) transpose = end_transpose bytes (transpose_after byte transpose)

abbrev pub end_repeat : List ℕ → ℕ → ℕ
end_repeat [] repeat = repeat
end_repeat (byte ∷ bytes) repeat = end_repeat bytes (repeat_after byte repeat)

-- the plays from the start to the end
unfoldable pub prefix_of : Order → List Step
prefix_of order = walk_plays order.entries (pos 0) 0

-- the plays from the restart position to the end, with the transpose and the repeat that stand at the end
unfoldable pub cycle_of : Order → List Step
cycle_of order =
    walk_plays (drop order.restart order.entries) (end_transpose order.entries (pos 0))
    (end_repeat order.entries 0)

abbrev pub no_step : Step
no_step = record { pattern = 0; transpose = pos 0 }

-- item i, counted from 0, of a prefix and then a cycle again and again
abbrev pub unrolled : {X : Type 0} → List X → List X → X → ℕ → X
unrolled prefix cycle no_item i =
    if nat_lt i (length prefix) then slice_index_or prefix i no_item
    else slice_index_or cycle ((i - length prefix) % length cycle) no_item

-- play i of an orderlist, counted from 0
unfoldable pub played : Order → ℕ → Step
played order i = unrolled (prefix_of order) (cycle_of order) no_step i
