-- Items of a list replaced by others.
use Rattle.std.specs.Prelude.{ℕ, ◌+◌, Bool, ◌&&◌, nat_le, List, ◌++◌, length, take, drop, Option, Some}
use Rattle.std.specs.Prelude.{None, vec_capacity, if◌then◌else◌}
use Rattle.edit_ops.specs.declared.splices.Splice.{Splice}

-- the list with these items in place of `count` ones from place `at` on
abbrev pub spliced : {X : Type 0} → ℕ → ℕ → List X → List X → List X
spliced at count items list = take at list ++ items ++ drop (at + count) list

abbrev pub whole_list : {X : Type 0} → List X → Splice X → List X
whole_list list splice = spliced splice.at splice.count splice.items.items list

-- the list has these places, it stays within its limit, and the items bring room for the whole list
abbrev pub fits : {X : Type 0} → ℕ → List X → Splice X → Bool
fits limit list splice =
    nat_le (splice.at + splice.count) (length list) && nat_le (length (whole_list list splice)) limit
    && nat_le (length (whole_list list splice)) (vec_capacity splice.items)

-- none where the items don't fit
unfoldable pub replaced : {X : Type 0} → ℕ → List X → Splice X → Option (List X)
replaced limit list splice = if fits limit list splice then Some (whole_list list splice) else None
