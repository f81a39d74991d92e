-- What lines are made of, and two lines that no file is named in.
use Rattle.std.specs.Prelude.{ℕ, ◌/◌, ◌%◌, List, [], ◌∷◌, ◌++◌, codes}
use Rattle.std.specs.List.{concat}
use Rattle.hex.specs.Hex.{encode_lower, encode_upper}
use Rattle.command_line.specs.declared.words.TheConstants.{USAGE}

-- the line of these parts
abbrev pub line : List (List ℕ) → List ℕ
line parts = concat parts ++ codes "\n"

abbrev pub usage_line : List ℕ
usage_line = line (USAGE.now ∷ [])

abbrev pub no_memory_line : List ℕ
no_memory_line = line (codes "no memory" ∷ [])

-- a byte as two hexadecimal digits in upper case
abbrev pub byte_digits : ℕ → List ℕ
byte_digits byte = encode_upper (byte ∷ [])

-- an address as four hexadecimal digits in upper case
abbrev pub address_digits : ℕ → List ℕ
address_digits address = encode_upper ((address / 256) ∷ (address % 256) ∷ [])

-- the low 24 bits of a number as six hexadecimal digits in lower case
abbrev pub feature_digits : ℕ → List ℕ
feature_digits bits = encode_lower ((bits / 65536 % 256) ∷ (bits / 256 % 256) ∷ (bits % 256) ∷ [])

-- a number of 32 bits as eight hexadecimal digits in lower case
abbrev pub sum_digits : ℕ → List ℕ
sum_digits sum = encode_lower ((sum / 16777216 % 256) ∷ (sum / 65536 % 256) ∷ (sum / 256 % 256) ∷ (sum % 256) ∷ [])
