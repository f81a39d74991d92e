-- Orderlists whose plays were worked out by hand.
use Rattle.std.specs.Prelude.{◌≡◌, ℕ, ℤ, pos, negsuc, zero, suc, List, [], ◌∷◌, ◌++◌}
use Rattle.song_model.specs.declared.orders.Order.{Order}
use Rattle.song_model.specs.declared.orders.Step.{Step}
use Rattle.song_model.specs.Walk.{prefix_of, cycle_of, played}

abbrev pub order : List ℕ → ℕ → Order
order entries restart = record { entries = entries; restart = restart }

abbrev pub step : ℕ → ℤ → Step
step pattern transpose = record { pattern = pattern; transpose = transpose }

abbrev pub first_plays : Order → ℕ → List Step
first_plays order zero = []
first_plays order (suc n) = first_plays order n ++ played order n ∷ []

-- a transpose of 2 stays for the second round, a lowest and a highest one
abbrev pub TransposesAreKept : Type 0
TransposesAreKept =
    (first_plays (order (0 ∷ 0xF2 ∷ 1 ∷ []) 0) 5 ≡ step 0 (pos 0) ∷ step 1 (pos 2) ∷ step 0 (pos 2)
    ∷ step 1 (pos 2) ∷ step 0 (pos 2) ∷ [])
    × (prefix_of (order (0xE0 ∷ 5 ∷ 0xFE ∷ 6 ∷ []) 0) ≡ step 5 (negsuc 15) ∷ step 6 (pos 14) ∷ [])

-- a repeat of 1 plays its pattern twice and is used up
abbrev pub RepeatsAreUsedUp : Type 0
RepeatsAreUsedUp =
    (prefix_of (order (0xD1 ∷ 3 ∷ 1 ∷ []) 0) ≡ step 3 (pos 0) ∷ step 3 (pos 0) ∷ step 1 (pos 0)
    ∷ [])
    × (cycle_of (order (0xD1 ∷ 3 ∷ 1 ∷ []) 1) ≡ step 3 (pos 0) ∷ step 1 (pos 0) ∷ [])

-- a repeat at the end is used by the pattern at the restart position, each time
abbrev pub RepeatsReachTheRestart : Type 0
RepeatsReachTheRestart =
    first_plays (order (0xF1 ∷ 4 ∷ 7 ∷ 0xD2 ∷ []) 2) 6
    ≡ step 4 (pos 1) ∷ step 7 (pos 1) ∷ step 7 (pos 1) ∷ step 7 (pos 1) ∷ step 7 (pos 1)
    ∷ step 7 (pos 1) ∷ []
