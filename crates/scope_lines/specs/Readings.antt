-- What the lines of a block are to one who reads them from the first one on: the tree of the lines up to the end of
-- what is open, and what is open behind that.
use Rattle.std.specs.Prelude.{ℕ, ◌&&◌, Bool, true, false, List, [], ◌∷◌, nat_eq, nat_lt}
use Rattle.std.specs.Int.{bit_at}
use Rattle.scopes.specs.declared.line.Line.{Line}
use Rattle.scopes.specs.declared.line.Line.TheVariants.{Do, With, Scope, Leave, LeaveIf, Loop, Again, AgainIf, When}
use Rattle.scopes.specs.declared.line.Line.TheVariants.{Choose, Or, End}
use Rattle.scopes.specs.Trees.{DoTree, WithTree, LeaveTree, LeaveIfTree, AgainTree, AgainIfTree, NeverTree}
use Rattle.scopes.specs.Trees.{Tree, NoneTree, Open, Lines, Other, opened}
use Rattle.scope_lines.specs.Reach.{nothing_around, has_lines}

abbrev pub first_of : List Open → Tree
first_of (Lines tree ∷ more) = tree
first_of more = NoneTree

abbrev pub behind_of : List Open → List Open
behind_of (Lines tree ∷ Other other ∷ more) = Lines other ∷ more
behind_of (Lines tree ∷ Lines other ∷ more) = Lines other ∷ more
behind_of (Lines tree ∷ []) = Lines NoneTree ∷ []
behind_of more = []

-- whether lines are open at all
abbrev pub are_open : List Open → Bool
are_open (Lines tree ∷ more) = true
are_open more = false

-- whether lines are in good form
abbrev pub are_whole : List Open → Bool
are_whole (Lines tree ∷ []) = true
are_whole more = false

-- whether a block has lines: in good form
abbrev pub is_block : List Line → Bool
is_block lines = are_whole (opened lines) && has_lines nothing_around (first_of (opened lines))

-- whether a condition is in a set of 128
abbrev pub holds_in : ℕ → ℕ → Bool
holds_in set condition = nat_lt condition 128 && nat_eq (bit_at set condition) 1

-- a line that opens nothing, as a tree; none of the others
abbrev pub simple : Line → Tree
simple (Do mnemonic) = DoTree mnemonic
simple (With mnemonic operand) = WithTree mnemonic operand
simple (Leave name) = LeaveTree name
simple (LeaveIf name test) = LeaveIfTree name test
simple Again = AgainTree
simple (AgainIf test) = AgainIfTree test
simple line = NeverTree

abbrev pub is_simple : Line → Bool
is_simple (Scope name) = false
is_simple (Loop count) = false
is_simple (When condition) = false
is_simple (Choose condition) = false
is_simple Or = false
is_simple End = false
is_simple line = true
