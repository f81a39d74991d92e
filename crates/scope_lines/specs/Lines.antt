-- The lines of the assembler that stand for a tree. This is the project's own language of player code, lowered to the
-- 6502.
use Rattle.std.specs.Prelude.{◌≡◌, ℕ, ◌+◌, ◌-◌, Bool, nat_eq, List, [], ◌∷◌, ◌++◌, if◌then◌else◌}
use Rattle.asm6502.specs.declared.lines.Operand.TheVariants.{Nothing}
use Rattle.asm6502.specs.declared.lines.Line.{Line}
use Rattle.asm6502.specs.Lines.{size_of}
use Rattle.scopes.specs.Trees.{Tree, DoTree, WithTree, NoneTree, ThenTree, ScopeTree, LeaveTree, LeaveIfTree, LoopTree}
use Rattle.scopes.specs.Trees.{AgainTree, AgainIfTree, WhenTree, ChooseTree, NeverTree}
use Rattle.scope_lines.specs.Instructions.{code, mode_of, argument_of, alone_mode, branch, jump}
use Rattle.scope_lines.specs.Sizes.{size}

-- What stands around lines: the label from which places are counted, the place of the pointer in page 0, which
-- conditions hold, and how many bytes behind the label the scopes around end, by their names, and the loop around
-- begins.
pub record Around : Type 0 where
  pub label : ℕ
  pub pointer : ℕ
  pub holds : ℕ → Bool
  pub ends : ℕ → ℕ
  pub head : ℕ

-- in a scope that ends there
abbrev pub in_scope : ℕ → ℕ → Around → Around
in_scope name end around = record around { ends = λ other. if nat_eq other name then end else around.ends other }

-- in a loop that begins there
abbrev pub in_loop : ℕ → Around → Around
in_loop head around = record around { head = head }

-- A branch forwards passes over the bytes from its own end to the label. One backwards has 256 less the bytes from the
-- label to its own end.
abbrev pub forwards : ℕ → ℕ → ℕ
forwards place label = label - (place + 2)

abbrev pub backwards : ℕ → ℕ → ℕ
backwards place label = 254 + label - place

-- the lines of a tree whose first byte stands so many bytes behind the label
abbrev pub lines : Around → ℕ → Tree → List Line
lines around place (DoTree mnemonic) = code mnemonic (alone_mode mnemonic) Nothing ∷ []
lines around place (WithTree mnemonic operand) =
    code mnemonic (mode_of operand) (argument_of around.pointer operand) ∷ []
lines around place NoneTree = []
lines around place (ThenTree first rest) =
    lines around place first ++ lines around (place + size around.holds first) rest
lines around place (ScopeTree name body) = lines (in_scope name (place + size around.holds body) around) place body
lines around place (LeaveTree name) = jump around.label (around.ends name) ∷ []
lines around place (LeaveIfTree name test) = branch test (forwards place (around.ends name)) ∷ []
lines around place (LoopTree count body) = lines (in_loop place around) place body
lines around place AgainTree = jump around.label around.head ∷ []
lines around place (AgainIfTree test) = branch test (backwards place around.head) ∷ []
lines around place (WhenTree condition body) = if around.holds condition then lines around place body else []
lines around place (ChooseTree condition this other) =
    if around.holds condition then lines around place this else lines around place other
lines around place NeverTree = []

-- with nothing around them
abbrev pub block_around : ℕ → ℕ → (ℕ → Bool) → Around
block_around label pointer holds =
    record { label = label; pointer = pointer; holds = holds; ends = λ name. 0; head = 0 }

abbrev pub block_lines : ℕ → ℕ → (ℕ → Bool) → ℕ → Tree → List Line
block_lines label pointer holds place tree = lines (block_around label pointer holds) place tree

-- they take the bytes that the tree's shape says
abbrev pub LinesTakeSize : Type 0
LinesTakeSize =
    (around : Around) (place : ℕ) (tree : Tree) → size_of (lines around place tree) ≡ size around.holds tree
