-- Patterns with their numbers, put in place of those of a list. Patterns are counted from 0.
use Rattle.std.specs.Prelude.{ℕ, Bool, nat_lt, List, [], ◌∷◌, slice_set, slice_index_or}
use Rattle.std.specs.List.{list_all}
use Rattle.song_model.specs.declared.rows.Row.{Row}
use Rattle.edit_ops.specs.declared.numbered.NumberedPattern.{NumberedPattern}

-- there are patterns with these numbers
abbrev pub are_stored : ℕ → List NumberedPattern → Bool
are_stored count parts = list_all (λ part. nat_lt part.number count) parts

-- the patterns with each of these put in its place, one after the other
abbrev pub with_all : List (List Row) → List NumberedPattern → List (List Row)
with_all patterns [] = patterns
with_all patterns (part ∷ parts) = with_all (slice_set patterns part.number part.rows) parts

-- what stood in each place before
abbrev pub exchanged : List (List Row) → List NumberedPattern → List NumberedPattern
exchanged patterns [] = []
exchanged patterns (part ∷ parts) =
    record part { rows = slice_index_or patterns part.number [] }
    ∷ exchanged (slice_set patterns part.number part.rows) parts
