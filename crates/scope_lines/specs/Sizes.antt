-- How many bytes the lines of a tree take: with the lines that a set of conditions keeps, and at most. This is the
-- project's own language of player code.
use Rattle.std.specs.Prelude.{ℕ, ◌+◌, ◌≤◌, max, Bool, if◌then◌else◌}
use Rattle.cpu6502.specs.Opcodes.{length_of}
use Rattle.scopes.specs.declared.line.Line.{Line}
use Rattle.scopes.specs.declared.line.Line.TheVariants.{Do, With, Leave, LeaveIf, Again, AgainIf}
use Rattle.scopes.specs.Trees.{Tree, DoTree, WithTree, NoneTree, ThenTree, ScopeTree, LeaveTree, LeaveIfTree, LoopTree}
use Rattle.scopes.specs.Trees.{AgainTree, AgainIfTree, WhenTree, ChooseTree, NeverTree}
use Rattle.scope_lines.specs.Instructions.{mode_of}

-- a branch has two bytes, and a jump three
abbrev pub size : (ℕ → Bool) → Tree → ℕ
size holds (DoTree mnemonic) = 1
size holds (WithTree mnemonic operand) = length_of (mode_of operand)
size holds NoneTree = 0
size holds (ThenTree first rest) = size holds first + size holds rest
size holds (ScopeTree name body) = size holds body
size holds (LeaveTree name) = 3
size holds (LeaveIfTree name test) = 2
size holds (LoopTree count body) = size holds body
size holds AgainTree = 3
size holds (AgainIfTree test) = 2
size holds (WhenTree condition body) = if holds condition then size holds body else 0
size holds (ChooseTree condition this other) = if holds condition then size holds this else size holds other
size holds NeverTree = 0

-- with the lines under each condition, and of a choice the longer side
abbrev pub most : Tree → ℕ
most (DoTree mnemonic) = 1
most (WithTree mnemonic operand) = length_of (mode_of operand)
most NoneTree = 0
most (ThenTree first rest) = most first + most rest
most (ScopeTree name body) = most body
most (LeaveTree name) = 3
most (LeaveIfTree name test) = 2
most (LoopTree count body) = most body
most AgainTree = 3
most (AgainIfTree test) = 2
most (WhenTree condition body) = most body
most (ChooseTree condition this other) = max (most this) (most other)
most NeverTree = 0

-- whichever conditions hold, the lines take at most so many
abbrev pub SizesAreBounded : Type 0
SizesAreBounded = (holds : ℕ → Bool) (tree : Tree) → size holds tree ≤ most tree

-- the bytes of a line that opens nothing
abbrev pub own_size : Line → ℕ
own_size (Do mnemonic) = 1
own_size (With mnemonic operand) = length_of (mode_of operand)
own_size (Leave name) = 3
own_size (LeaveIf name test) = 2
own_size Again = 3
own_size (AgainIf test) = 2
own_size line = 0
