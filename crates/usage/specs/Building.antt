-- How sets of numbers as marks are built up, one mark after another, and marks of commands with their
-- parameters.
use Rattle.std.specs.Prelude.{◌≡◌, ℕ, ◌<◌, Bool, List, [], length, slice_index_or, All, Any, ◌⊎◌, ◌↔◌}
use Rattle.usage.specs.Marks.{IsMarked, AreMarks}

-- the marks of the numbers with this property were added, and no other
pub record Adds (P : ℕ → Type 0) (old new : List Bool) : Type 0 where
  pub each : (n : ℕ) → IsMarked new n ↔ (IsMarked old n ⊎ P n)

-- a number that some item of a list stands for
abbrev pub SomeOf : {X : Type 0} → (X → ℕ → Type 0) → List X → ℕ → Type 0
SomeOf Q xs n = Any (λ x. Q x n) xs

-- a number that some k below i stands for
pub record SomeBelow (Q : ℕ → ℕ → Type 0) (i n : ℕ) : Type 0 where
  pub k : ℕ
  pub below : k < i
  pub stands : Q k n

-- ---- commands with their parameters

-- a command and a parameter that some item of a list stands for
abbrev pub SomeAt : {X : Type 0} → (X → ℕ → ℕ → Type 0) → List X → ℕ → ℕ → Type 0
SomeAt Q xs c = SomeOf (λ x. Q x c) xs

-- one that some k below i stands for
abbrev pub SomeBelowAt : (ℕ → ℕ → ℕ → Type 0) → ℕ → ℕ → ℕ → Type 0
SomeBelowAt Q i c = SomeBelow (λ k d. Q k c d) i

-- the parameters that are marked of a command
abbrev pub marks_of : List (List Bool) → ℕ → List Bool
marks_of commands c = slice_index_or commands c []

-- each command has a mark for each byte
abbrev pub AreWhole : List (List Bool) → Type 0
AreWhole commands = All (λ marks. length marks ≡ 256) commands

-- the marks are those of the commands and parameters with this property, and of no other
pub record AreMarksAt (P : ℕ → ℕ → Type 0) (commands : List (List Bool)) : Type 0 where
  pub whole : AreWhole commands
  pub each : (c : ℕ) → AreMarks (P c) (marks_of commands c)

-- the marks of the commands and parameters with this property were added, and no other
pub record AddsAt (P : ℕ → ℕ → Type 0) (old new : List (List Bool)) : Type 0 where
  pub whole : AreWhole new
  pub each : (c : ℕ) → Adds (P c) (marks_of old c) (marks_of new c)
