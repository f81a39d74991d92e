-- The scale upwards: clock cycles, and raster lines of 63 each. This is the project's own.
use Rattle.std.specs.Prelude.{ℕ, ◌*◌, ◌/◌, nat_le, List, [], ◌∷◌, unwrap_or}
use Rattle.std.specs.List.{find}

-- how many raster lines may lie from a grid line to the next
abbrev pub steps : List ℕ
steps = 1 ∷ 2 ∷ 5 ∷ 10 ∷ 20 ∷ 50 ∷ 100 ∷ 200 ∷ 500 ∷ 1000 ∷ 2000 ∷ 5000 ∷ []

-- the clock cycles that six steps hold
abbrev pub top : ℕ → ℕ
top step = 6 * step * 63

-- the first with which six steps hold the most clock cycles of a call
abbrev pub step_for : ℕ → ℕ
step_for most = unwrap_or (find (λ step. nat_le most (top step)) steps) 5000

-- the pixels that clock cycles are high, of 420 for six steps; rounded down
abbrev pub height : ℕ → ℕ → ℕ
height step cycles = cycles * 420 / top step
