-- Numbers that a byte or a word of two bytes holds.
use Rattle.std.specs.Prelude.{ℕ, ◌<◌, List, All}

-- a number that a byte holds
abbrev pub IsByte : ℕ → Type 0
IsByte n = n < 256

-- a number that two bytes hold
abbrev pub IsWord : ℕ → Type 0
IsWord n = n < 65536

-- a list of bytes
abbrev pub AreBytes : List ℕ → Type 0
AreBytes bytes = All IsByte bytes
