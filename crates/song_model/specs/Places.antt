-- Where a walk along an orderlist stands between its plays. A play's place is the walk's place,
-- transpose and repeat after the play before it.
use Rattle.std.specs.Prelude.{ℕ, ◌+◌, zero, suc, ℤ, pos, List, [], ◌∷◌, ◌++◌, length, drop}
use Rattle.std.specs.Prelude.{if◌then◌else◌, nat_lt, ◌==◌}
use Rattle.song_model.specs.declared.orders.Order.{Order}
use Rattle.song_model.specs.declared.orders.OrderPlace.{OrderPlace}
use Rattle.song_model.specs.Walk.{transpose_after, repeat_after, end_transpose, end_repeat, unrolled}

-- a walk's start
abbrev pub first_place : OrderPlace
first_place = record { place = 0; transpose = pos 0; repeat = 0 }

-- After each play of the pattern at a place: while it has plays left the walk stays on it and the
-- repeat is one less, and after its last play the walk stands after it.
abbrev pub places_of_pattern : ℕ → ℤ → ℕ → List OrderPlace
places_of_pattern place transpose zero =
    record { place = place + 1; transpose = transpose; repeat = 0 } ∷ []
places_of_pattern place transpose (suc repeat) =
    record { place = place; transpose = transpose; repeat = repeat }
    ∷ places_of_pattern place transpose repeat

-- after each play of the byte at a place; a repeat or a transpose has none
abbrev pub places_of : ℕ → ℕ → ℤ → ℕ → List OrderPlace
places_of byte place transpose repeat =
    if nat_lt byte 0xD0 then places_of_pattern place transpose repeat else []

-- after each play of a walk along these bytes, the first of which stands at this place
abbrev pub walk_places : List ℕ → ℕ → ℤ → ℕ → List OrderPlace
walk_places [] place transpose repeat = []
walk_places (byte ∷ bytes) place transpose repeat =
    places_of byte place transpose repeat
    ++ walk_places bytes (place + 1) (transpose_after byte transpose) (repeat_after byte repeat)

-- after each play from the start to the end
unfoldable pub prefix_places : Order → List OrderPlace
prefix_places order = walk_places order.entries 0 (pos 0) 0

-- after each play from the restart position to the end, with the transpose and the repeat that stand at the end
unfoldable pub cycle_places : Order → List OrderPlace
cycle_places order =
    walk_places (drop order.restart order.entries) order.restart
    (end_transpose order.entries (pos 0)) (end_repeat order.entries 0)

-- at the end the place becomes the restart position, and transpose and repeat stay
abbrev pub restarted : Order → OrderPlace → OrderPlace
restarted order at =
    if at.place == length order.entries then record at { place = order.restart } else at

-- after play i, counted from 0: the prefix, and then the cycle again and again
unfoldable pub place_after : Order → ℕ → OrderPlace
place_after order i =
    restarted order (unrolled (prefix_places order) (cycle_places order) first_place i)

-- the place of play i, counted from 0
unfoldable pub place_of : Order → ℕ → OrderPlace
place_of order zero = first_place
place_of order (suc i) = place_after order i
