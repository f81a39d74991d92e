-- The lines that a trace of a song and a run of a PSID file print: for each call its number and the 25 registers of the
-- SID after it.
use Rattle.std.specs.Prelude.{ℕ, ◌+◌, ◌-◌, List, [], ◌∷◌, ◌++◌, length, replicate, codes, decimal}
use Rattle.std.specs.List.{concat}
use Rattle.hex.specs.Hex.{encode_lower}

-- the number of a call in six digits, with leading zeros
abbrev pub call_digits : ℕ → List ℕ
call_digits call = replicate (6 - length (decimal call)) 0x30 ++ decimal call

-- the line of a call: its number, a space, two lower case hexadecimal digits for each register, a line feed
abbrev pub register_line : ℕ → List ℕ → List ℕ
register_line call registers = call_digits call ++ codes " " ++ encode_lower registers ++ codes "\n"

-- the lines of calls, the first of which has this number
abbrev pub lines_from : ℕ → List (List ℕ) → List (List ℕ)
lines_from call [] = []
lines_from call (registers ∷ rest) = register_line call registers ∷ lines_from (call + 1) rest

-- the lines of calls from call 0 on
abbrev pub register_lines : List (List ℕ) → List (List ℕ)
register_lines calls = lines_from 0 calls

-- their text
abbrev pub register_text : List (List ℕ) → List ℕ
register_text calls = concat (register_lines calls)
