-- How great the least numbers can be. This is the project's own.
use Rattle.std.specs.Prelude.{ℕ, ◌+◌, ◌*◌, ◌^◌, ◌<◌, Option, Some, None}
use Rattle.scopes.specs.Trees.{Tree, NoneTree, ThenTree, ScopeTree, LoopTree, WhenTree, ChooseTree, NeverTree}
use Rattle.cycle_bound.specs.Rules.{Setting}
use Rattle.cycle_bound.specs.EntranceRules.{calling_most}
use Rattle.cycle_bound.specs.Least.{least_all, Fit}

-- how much greater than what follows a number of these lines can be: 8 a line, and once more for each turn of a
-- loop, which are never more than its count
abbrev pub span : Tree → ℕ
span NoneTree = 0
span (ThenTree first rest) = span first + span rest
span (ScopeTree name body) = span body
span (LoopTree count body) = (1 + count) * span body
span (WhenTree condition body) = span body
span (ChooseTree condition this other) = span this + span other
span NeverTree = 0
span tree = 8

-- of a call
abbrev pub call_span : Tree → Option Tree → ℕ
call_span first None = span first
call_span first (Some voice) = span first + 3 * span voice + calling_most

-- where that has room in 64 bits, so have the least numbers
abbrev pub LeastFit : Type 0
LeastFit =
    (setting : Setting) (first : Tree) (voice : Option Tree) →
    call_span first voice < 2 ^ 64 → Fit (least_all setting first voice)
