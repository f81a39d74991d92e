-- Sets of numbers as marks: number n is in the set where mark n is set. Past the last mark no number is.
use Rattle.std.specs.Prelude.{◌≡◌, ℕ, Bool, true, false, List, slice_index_or, count_by, ◌↔◌}

abbrev pub IsMarked : List Bool → ℕ → Type 0
IsMarked marks n = slice_index_or marks n false ≡ true

-- how many numbers are marked
abbrev pub count_of : List Bool → ℕ
count_of marks = count_by (λ marked. marked) marks

-- the marks are those of the numbers with this property, and of no other
pub record AreMarks (P : ℕ → Type 0) (marks : List Bool) : Type 0 where
  pub each : (n : ℕ) → IsMarked marks n ↔ P n
