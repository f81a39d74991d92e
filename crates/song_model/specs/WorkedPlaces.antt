-- Orderlists whose places were worked out by hand.
use Rattle.std.specs.Prelude.{◌≡◌, ℕ, ℤ, pos, negsuc, zero, suc, List, [], ◌∷◌, ◌++◌}
use Rattle.song_model.specs.declared.orders.Order.{Order}
use Rattle.song_model.specs.declared.orders.OrderPlace.{OrderPlace}
use Rattle.song_model.specs.WorkedWalks.{order}
use Rattle.song_model.specs.Places.{place_of}

abbrev pub at : ℕ → ℤ → ℕ → OrderPlace
at place transpose repeat = record { place = place; transpose = transpose; repeat = repeat }

abbrev pub first_places : Order → ℕ → List OrderPlace
first_places order zero = []
first_places order (suc n) = first_places order n ++ place_of order n ∷ []

-- a repeat of 1: the walk stays on the pattern for one more play, and goes round with no repeat
abbrev pub RepeatsStay : Type 0
RepeatsStay =
    first_places (order (0xD1 ∷ 0 ∷ []) 0) 5
    ≡ at 0 (pos 0) 0 ∷ at 1 (pos 0) 0 ∷ at 0 (pos 0) 0 ∷ at 1 (pos 0) 0 ∷ at 0 (pos 0) 0 ∷ []

-- a transpose of -12 stays over the restart
abbrev pub TransposesStay : Type 0
TransposesStay =
    first_places (order (0xE4 ∷ 0 ∷ 1 ∷ []) 0) 5
    ≡ at 0 (pos 0) 0 ∷ at 2 (negsuc 11) 0 ∷ at 0 (negsuc 11) 0 ∷ at 2 (negsuc 11) 0
    ∷ at 0 (negsuc 11) 0 ∷ []

-- the entries before the restart position are played once
abbrev pub RestartsInTheMiddle : Type 0
RestartsInTheMiddle =
    first_places (order (7 ∷ 8 ∷ 9 ∷ []) 1) 6
    ≡ at 0 (pos 0) 0 ∷ at 1 (pos 0) 0 ∷ at 2 (pos 0) 0 ∷ at 1 (pos 0) 0 ∷ at 2 (pos 0) 0 ∷ at 1 (pos 0) 0 ∷ []

-- a repeat of 2 at the end is read when the next pattern is looked for: it is the one at the restart position
abbrev pub RepeatsArePending : Type 0
RepeatsArePending =
    first_places (order (0xF1 ∷ 4 ∷ 7 ∷ 0xD2 ∷ []) 2) 7
    ≡ at 0 (pos 0) 0 ∷ at 2 (pos 1) 0 ∷ at 3 (pos 1) 0 ∷ at 2 (pos 1) 1 ∷ at 2 (pos 1) 0
    ∷ at 3 (pos 1) 0 ∷ at 2 (pos 1) 1 ∷ []
