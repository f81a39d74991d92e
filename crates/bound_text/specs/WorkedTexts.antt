-- Texts of numbers, lines that are no number's, and texts that have no such line, worked by hand.
use Rattle.std.specs.Prelude.{◌≡◌, ℕ, [], ◌∷◌, codes}
use Rattle.bound_text.specs.Texts.{numbers_text, IsBadLine}

-- no numbers, two of them, and the greatest
pub record TextsAreWorked : Type 0 where
  pub none : numbers_text [] ≡ []
  pub two : numbers_text (0 ∷ 12 ∷ []) ≡ codes "0\n12\n"
  pub greatest : numbers_text (18446744073709551615 ∷ []) ≡ codes "18446744073709551615\n"

-- a leading zero; a last line without its line feed; an empty line; a carriage return; a number that has no room; and a
-- line that isn't the first bad one
pub record BadLinesAreWorked : Type 0 where
  pub zero : IsBadLine (codes "01\n") 1
  pub unended : IsBadLine (codes "1\n2") 2
  pub empty : IsBadLine (codes "1\n\n") 2
  pub return : IsBadLine (codes "1\r\n") 1
  pub great : IsBadLine (codes "18446744073709551616\n") 1
  pub later : ¬ IsBadLine (codes "x\ny\n") 2
  pub nothing : (line : ℕ) → ¬ IsBadLine [] line
  pub numbers : (line : ℕ) → ¬ IsBadLine (codes "0\n12\n") line
