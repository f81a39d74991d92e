-- What holds of the parts of a block. This is the project's own language of player code.
use Rattle.std.specs.Prelude.{◌≡◌, ℕ, ◌+◌, ◌≤◌, ◌⊎◌, ◌==◌, min, max, Bool, true, if◌then◌else◌}
use Rattle.std.specs.Prelude.{length, All}
use Rattle.scopes.specs.Trees.{Tree, ThenTree, ScopeTree, LoopTree}
use Rattle.scopes.specs.Trees.{WhenTree, ChooseTree}
use Rattle.scope_lines.specs.Sizes.{size, most}
use Rattle.scope_parts.specs.Parts.{parts, bytes_of}

-- there are as many as the lines have bytes
abbrev pub PartsTakeSize : Type 0
PartsTakeSize = (holds : ℕ → Bool) (around : ℕ) (tree : Tree) → length (parts holds around tree) ≡ size holds tree

-- each is a condition that holds, or the part in which the tree stands
abbrev pub PartsAreKept : Type 0
PartsAreKept =
    (holds : ℕ → Bool) (around : ℕ) (tree : Tree) →
    All (λ part. (part ≡ around) ⊎ (holds part ≡ true)) (parts holds around tree)

-- the bytes of a part where all lines are kept, and of a choice the longer side
abbrev pub most_of : ℕ → ℕ → Tree → ℕ
most_of part around (ThenTree first rest) = most_of part around first + most_of part around rest
most_of part around (ScopeTree name body) = most_of part around body
most_of part around (LoopTree count body) = most_of part around body
most_of part around (WhenTree condition body) = most_of part condition body
most_of part around (ChooseTree condition this other) = max (most_of part condition this) (most_of part around other)
most_of part around tree = if around == part then most tree else 0

-- whichever conditions hold, there are at most so many
abbrev pub PartsAreBounded : Type 0
PartsAreBounded =
    (holds : ℕ → Bool) (part around : ℕ) (tree : Tree) →
    bytes_of part (parts holds around tree) ≤ most_of part around tree

-- the bytes of a part that no condition leaves out: of lines under one none, and of a choice the shorter side
abbrev pub least_of : ℕ → ℕ → Tree → ℕ
least_of part around (ThenTree first rest) = least_of part around first + least_of part around rest
least_of part around (ScopeTree name body) = least_of part around body
least_of part around (LoopTree count body) = least_of part around body
least_of part around (WhenTree condition body) = 0
least_of part around (ChooseTree condition this other) = min (least_of part condition this) (least_of part around other)
least_of part around tree = if around == part then most tree else 0

-- whichever conditions hold, there are at least so many
abbrev pub PartsAreThere : Type 0
PartsAreThere =
    (holds : ℕ → Bool) (part around : ℕ) (tree : Tree) →
    least_of part around tree ≤ bytes_of part (parts holds around tree)
