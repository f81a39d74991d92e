-- How the numbers of a state wrap: fields of one byte at 256, frequencies at 65,536, pulse widths at
-- 4,096. Numbers wrap where they are stored, both ways round.
use Rattle.std.specs.Prelude.{ℕ, ◌+◌, ◌-◌, ◌/◌, ◌%◌, ◌^◌}

-- a sum, and a difference of numbers below the size
abbrev pub plus : ℕ → ℕ → ℕ → ℕ
plus size a b = (a + b) % size

abbrev pub minus : ℕ → ℕ → ℕ → ℕ
minus size a b = (a + size - b) % size

abbrev pub byte_plus : ℕ → ℕ → ℕ
byte_plus a b = plus 256 a b

abbrev pub byte_minus : ℕ → ℕ → ℕ
byte_minus a b = minus 256 a b

abbrev pub freq_plus : ℕ → ℕ → ℕ
freq_plus a b = plus 65536 a b

abbrev pub freq_minus : ℕ → ℕ → ℕ
freq_minus a b = minus 65536 a b

abbrev pub pulse_plus : ℕ → ℕ → ℕ
pulse_plus a b = plus 4096 a b

abbrev pub pulse_minus : ℕ → ℕ → ℕ
pulse_minus a b = minus 4096 a b

-- shifted right by this many bits
abbrev pub shifted_right : ℕ → ℕ → ℕ
shifted_right n bits = n / 2 ^ bits

-- how far two numbers are apart
abbrev pub distance : ℕ → ℕ → ℕ
distance a b = (a - b) + (b - a)
