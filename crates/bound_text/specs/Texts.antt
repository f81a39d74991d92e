-- The text of numbers, and what isn't one. This is the project's own.
use Rattle.std.specs.Prelude.{◌≡◌, ℕ, ◌+◌, ◌<◌, ◌^◌, ◌++◌, ◌==◌, Some, List, [], ◌∷◌, length, take, position, decimal}
use Rattle.cycle_bound.specs.Least.{Fit}
use Rattle.bound_text.specs.declared.reading.TextFault.{TextFault}
use Rattle.bound_text.specs.declared.reading.TextFault.TheVariants.{NoMemory, BadNumber}

-- each in decimal, without leading zeros, with a line feed behind it
abbrev pub numbers_text : List ℕ → List ℕ
numbers_text [] = []
numbers_text (number ∷ numbers) = decimal number ++ 10 ∷ numbers_text numbers

-- the first line, counted from 1, that isn't a number's: those before it are, and what is left has something, but no line
-- feed, or else what stands in front of its first one is no number in decimal
pub record IsBadLine (text : List ℕ) (line : ℕ) : Type 0 where
  pub numbers : List ℕ
  pub rest : List ℕ
  pub fit : Fit numbers
  pub are : text ≡ numbers_text numbers ++ rest
  pub some : 0 < length rest
  pub bad : (end number : ℕ) → position (λ byte. byte == 10) rest ≡ Some end → number < 2 ^ 64 →
      ¬ (take end rest ≡ decimal number)
  pub place : line ≡ length numbers + 1

abbrev pub IsFaultOf : List ℕ → TextFault → Type 0
IsFaultOf text NoMemory = Unit {0}
IsFaultOf text (BadNumber line) = IsBadLine text line
