-- At most how many instructions the lines of a tree run. This is the project's own language of player code.
use Rattle.std.specs.Prelude.{ℕ, ◌+◌, ◌*◌, ◌≤◌, max}
use Rattle.scopes.specs.Desk.{Desk, Layout}
use Rattle.scopes.specs.Trees.{Tree, DoTree, WithTree, NoneTree, ThenTree, ScopeTree, LeaveTree, LeaveIfTree, LoopTree}
use Rattle.scopes.specs.Trees.{AgainTree, AgainIfTree, WhenTree, ChooseTree, NeverTree}
use Rattle.scopes.specs.Meaning.{each_one, ran}

-- a loop in as many turns as it may have, and of a choice the heavier side
abbrev pub weight : Tree → ℕ
weight (DoTree mnemonic) = 1
weight (WithTree mnemonic operand) = 1
weight NoneTree = 0
weight (ThenTree first rest) = weight first + weight rest
weight (ScopeTree name body) = weight body
weight (LeaveTree name) = 1
weight (LeaveIfTree name test) = 1
weight (LoopTree count body) = count * weight body
weight AgainTree = 1
weight (AgainIfTree test) = 1
weight (WhenTree condition body) = weight body
weight (ChooseTree condition this other) = max (weight this) (weight other)
weight NeverTree = 0

-- whatever a tree comes to, from any desk
abbrev pub CostsAreBounded : Type 0
CostsAreBounded = (layout : Layout) (tree : Tree) (desk : Desk) → (ran each_one layout tree desk).cost ≤ weight tree
