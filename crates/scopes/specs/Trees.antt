-- The tree of a block: its lines are read from the last one back, over what is open, the innermost first. This is the
-- project's own language of player code.
use Rattle.std.specs.Prelude.{ℕ, List, [], ◌∷◌}
use Rattle.cpu6502.specs.declared.mnemonic.Mnemonic.{Mnemonic}
use Rattle.scopes.specs.declared.line.Operand.{Operand}
use Rattle.scopes.specs.declared.line.Test.{Test}
use Rattle.scopes.specs.declared.line.Line.{Line}
use Rattle.scopes.specs.declared.line.Line.TheVariants.{Do, With, Scope, Leave, LeaveIf, Loop, Again, AgainIf, When}
use Rattle.scopes.specs.declared.line.Line.TheVariants.{Choose, Or, Never, End}

pub data Tree : Type 0 where
  DoTree : (mnemonic : Mnemonic) → Tree
  WithTree : (mnemonic : Mnemonic) (operand : Operand) → Tree
  NoneTree : Tree
  ThenTree : (first rest : Tree) → Tree
  ScopeTree : (name : ℕ) (body : Tree) → Tree
  LeaveTree : (name : ℕ) → Tree
  LeaveIfTree : (name : ℕ) (test : Test) → Tree
  LoopTree : (count : ℕ) (body : Tree) → Tree
  AgainTree : Tree
  AgainIfTree : (test : Test) → Tree
  WhenTree : (condition : ℕ) (body : Tree) → Tree
  ChooseTree : (condition : ℕ) (this other : Tree) → Tree
  NeverTree : Tree

-- what is open: the lines behind, as a tree; and the side of a choice behind its `Or`
pub data Open : Type 0 where
  Lines : (tree : Tree) → Open
  Other : (other : Tree) → Open

-- a tree in front of what follows it
abbrev pub put_before : Tree → List Open → List Open
put_before tree (Lines rest ∷ open_ones) = Lines (ThenTree tree rest) ∷ open_ones
put_before tree open_ones = []

-- a line in front of what follows it; nothing stands where it has no place
abbrev pub led : Line → List Open → List Open
led (Do mnemonic) open_ones = put_before (DoTree mnemonic) open_ones
led (With mnemonic operand) open_ones = put_before (WithTree mnemonic operand) open_ones
led (Leave name) open_ones = put_before (LeaveTree name) open_ones
led (LeaveIf name test) open_ones = put_before (LeaveIfTree name test) open_ones
led Again open_ones = put_before AgainTree open_ones
led (AgainIf test) open_ones = put_before (AgainIfTree test) open_ones
led Never open_ones = put_before NeverTree open_ones
led End (first ∷ others) = Lines NoneTree ∷ first ∷ others
led (Scope name) (Lines body ∷ open_ones) = put_before (ScopeTree name body) open_ones
led (Loop count) (Lines body ∷ open_ones) = put_before (LoopTree count body) open_ones
led (When condition) (Lines body ∷ open_ones) = put_before (WhenTree condition body) open_ones
led Or (Lines other ∷ open_ones) = Lines NoneTree ∷ Other other ∷ open_ones
led (Choose condition) (Lines this ∷ Other other ∷ open_ones) = put_before (ChooseTree condition this other) open_ones
led line open_ones = []

abbrev pub opened : List Line → List Open
opened [] = Lines NoneTree ∷ []
opened (line ∷ lines) = led line (opened lines)

-- the tree, where nothing stays open; lines in bad form are never come to
abbrev pub whole : List Open → Tree
whole (Lines tree ∷ []) = tree
whole open_ones = NeverTree

abbrev pub tree_of : List Line → Tree
tree_of lines = whole (opened lines)
