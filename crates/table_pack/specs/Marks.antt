-- Sets of numbers as marks.
use Rattle.std.specs.Prelude.{ℕ, Bool, false, List, slice_index_or}

-- number n is in the set where mark n is set; past the last mark no number is
abbrev pub is_marked : List Bool → ℕ → Bool
is_marked marks n = slice_index_or marks n false
