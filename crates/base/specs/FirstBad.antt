-- The first item of a list that isn't as it must be.
use Rattle.std.specs.Prelude.{ℕ, ◌<◌, List, length, slice_index_or}

-- the least place, counted from 0, of an item that isn't as it must be
pub record IsFirstBad {X : Type 0} (P : X → Type 0) (items : List X) (place : ℕ) : Type 0 where
  pub inside : place < length items
  pub bad : (d : X) → ¬ P (slice_index_or items place d)
  pub before : (k : ℕ) (d : X) → k < place → P (slice_index_or items k d)
