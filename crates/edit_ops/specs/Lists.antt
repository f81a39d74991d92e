-- What edits do to lists, beside the words that every list has (an item set, inserted or removed).
use Rattle.std.specs.Prelude.{ℕ, ◌-◌, List, ◌++◌, length, take, replicate}

-- the first n items, with this item again and again where there are fewer
abbrev pub resized : {X : Type 0} → ℕ → X → List X → List X
resized n filling items = take n items ++ replicate (n - length items) filling
