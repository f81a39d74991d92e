-- Numbers in text: hexadecimal digits in capital letters, the digit that is worth most first.
use Rattle.std.specs.Prelude.{ℕ, ◌/◌, ◌%◌, List, [], ◌∷◌, ◌++◌, slice_index}
use Rattle.asm_text.specs.declared.numbers.TheConstants.{DIGITS}

-- the digit of a number below 16
abbrev pub digit : ℕ → ℕ
digit value = slice_index DIGITS value

-- a byte has two digits, an address four
abbrev pub byte_digits : ℕ → List ℕ
byte_digits byte = digit (byte / 16) ∷ digit (byte % 16) ∷ []

abbrev pub word_digits : ℕ → List ℕ
word_digits word = byte_digits (word / 256) ++ byte_digits (word % 256)
