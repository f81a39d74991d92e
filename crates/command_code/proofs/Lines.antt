-- Lines of a tree, and those that are for one command.
use Rattle.std.proofs.Common.{ℕ, zero, suc, List}
use Rattle.cpu6502.specs.declared.mnemonic.Mnemonic.TheVariants.{Cpy}
use Rattle.scopes.specs.declared.line.Line.{Line}
use Rattle.scopes.specs.declared.line.Operand.TheVariants.{Number}
use Rattle.scopes.specs.declared.line.Flag.TheVariants.{Zero}
use Rattle.scopes.specs.declared.line.Test.TheVariants.{Off}
use Rattle.scopes.specs.Trees.{Tree, WithTree, NoneTree, ThenTree, ScopeTree, LeaveIfTree, WhenTree, NeverTree, tree_of}
use Rattle.player_text.specs.declared.commands.TheConstants.{OTHER}

-- the first of some lines, and those behind it
abbrev pub first_of : Tree → Tree
first_of (ThenTree first rest) = first
first_of tree = NeverTree

abbrev pub behind : Tree → Tree
behind (ThenTree first rest) = rest
behind tree = NeverTree

-- those behind so many
abbrev pub past : ℕ → Tree → Tree
past zero tree = tree
past (suc count) tree = past count (behind tree)

-- those under a condition
abbrev pub under : Tree → Tree
under (WhenTree condition body) = body
under tree = NeverTree

-- the lines for a command, which Y is to be, under a condition
abbrev pub lines_for : ℕ → ℕ → Tree → Tree
lines_for condition command body =
    WhenTree condition (ThenTree (ScopeTree OTHER (ThenTree (WithTree Cpy (Number command))
    (ThenTree (LeaveIfTree OTHER (Off Zero)) body))) NoneTree)

-- what is done for it, where Y is it: of such lines, and of a block of them
abbrev pub body_for : Tree → Tree
body_for (WhenTree condition (ThenTree (ScopeTree other (ThenTree compare (ThenTree leave body))) rest)) = body
body_for tree = NeverTree

abbrev pub lines_of : record { now : List Line } → Tree
lines_of block = body_for (first_of (tree_of block.now))
