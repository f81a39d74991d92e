-- The parts of a block: the condition under which each byte of its lines stands. This is the project's own language of
-- player code.
use Rattle.std.specs.Prelude.{ℕ, ◌==◌, Bool, if◌then◌else◌, List, [], ◌++◌, replicate, sum_by}
use Rattle.scopes.specs.Trees.{Tree, ThenTree, ScopeTree, LoopTree}
use Rattle.scopes.specs.Trees.{WhenTree, ChooseTree}
use Rattle.scope_lines.specs.Sizes.{size}

-- The part of each byte of the lines of a tree that are kept, in order: the innermost condition around its line, or
-- the part in which the tree stands. Of a choice the first side stands under the condition, and the other doesn't.
abbrev pub parts : (ℕ → Bool) → ℕ → Tree → List ℕ
parts holds around (ThenTree first rest) = parts holds around first ++ parts holds around rest
parts holds around (ScopeTree name body) = parts holds around body
parts holds around (LoopTree count body) = parts holds around body
parts holds around (WhenTree condition body) = if holds condition then parts holds condition body else []
parts holds around (ChooseTree condition this other) =
    if holds condition then parts holds condition this else parts holds around other
parts holds around tree = replicate (size holds tree) around

-- how many bytes are of a part: one for each that is
abbrev pub bytes_of : ℕ → List ℕ → ℕ
bytes_of part all = sum_by (λ own. if own == part then 1 else 0) all
