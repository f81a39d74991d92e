-- Sets of numbers below 128, a bit for each, and their sums modulo 128.
use Rattle.std.specs.Prelude.{◌≡◌, ℕ, ◌+◌, ◌%◌, ◌↔◌}
use Rattle.std.specs.Int.{bit_at}
use Rattle.number_range.specs.declared.sets.NumberSet.{NumberSet}

-- the set has the number
abbrev pub Has : NumberSet → ℕ → Type 0
Has set n = bit_at set.bits n ≡ 1

-- the set has exactly the numbers with this property
pub record IsSetOf (IsSuch : ℕ → Type 0) (set : NumberSet) : Type 0 where
  pub each : (n : ℕ) → Has set n ↔ IsSuch n

-- no number has this property
abbrev pub IsNone : ℕ → Type 0
IsNone n = ⊥

-- the set has a number
pub record HasSome (set : NumberSet) : Type 0 where
  pub n : ℕ
  pub has : Has set n

-- a number of the set with this added to it
pub record IsMoved (set : NumberSet) (by n : ℕ) : Type 0 where
  pub from : ℕ
  pub has : Has set from
  pub is : n ≡ (from + by) % 128

-- the sum of two numbers, one with each property
pub record IsSum (IsFirst IsSecond : ℕ → Type 0) (n : ℕ) : Type 0 where
  pub first : ℕ
  pub second : ℕ
  pub is_first : IsFirst first
  pub is_second : IsSecond second
  pub is : n ≡ (first + second) % 128
