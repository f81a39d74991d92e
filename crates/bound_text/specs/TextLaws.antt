-- What holds of texts. This is the project's own.
use Rattle.std.specs.Prelude.{◌≡◌, ℕ, List}
use Rattle.cycle_bound.specs.Least.{Fit}
use Rattle.bound_text.specs.Texts.{numbers_text, IsBadLine}

-- a text of numbers has no bad line
abbrev pub TextsHaveNoBadLine : Type 0
TextsHaveNoBadLine = (numbers : List ℕ) (line : ℕ) → Fit numbers → ¬ IsBadLine (numbers_text numbers) line

-- and is that of one list of numbers alone
abbrev pub TextsAreOfOneList : Type 0
TextsAreOfOneList =
    (one two : List ℕ) → Fit one → Fit two → numbers_text one ≡ numbers_text two → one ≡ two

-- a text has one bad line at most
abbrev pub OneBadLine : Type 0
OneBadLine = (text : List ℕ) (one two : ℕ) → IsBadLine text one → IsBadLine text two → one ≡ two
