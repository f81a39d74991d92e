-- How many zeros stand in front of the frequencies of a range of numbers. The label of a list names the byte that
-- number 0 would have, which is to be among the bytes of all lists: where fewer bytes stand in front of the frequencies
-- than there are numbers below the range, zeros fill the gap. This is the project's own player.
use Rattle.std.specs.Prelude.{ℕ, ◌-◌}
use Rattle.asked_numbers.specs.declared.range.NumberRange.{NumberRange}

-- with so many bytes in front
abbrev pub gap_in : NumberRange → ℕ → ℕ
gap_in range front = range.first - front
