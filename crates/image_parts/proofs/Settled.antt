-- A block whose choices by one condition are made: where that holds, or doesn't, its parts are those of the block.
use Rattle.std.proofs.Common.{◌≡◌, ℕ, Bool, true, false, nat_eq, if◌then◌else◌, refl, ap, ◌∙◌}
use Rattle.std.proofs.lemmas.Bool.{eqb-true}
use Rattle.scopes.specs.Trees.{Tree, DoTree, WithTree, NoneTree, ThenTree, ScopeTree, LeaveTree, LeaveIfTree, LoopTree}
use Rattle.scopes.specs.Trees.{AgainTree, AgainIfTree, WhenTree, ChooseTree, NeverTree}
use Rattle.scope_parts.specs.Parts.{parts}

abbrev pub settled : ℕ → Bool → Tree → Tree
settled known z (ThenTree first rest) = ThenTree (settled known z first) (settled known z rest)
settled known z (ScopeTree name body) = ScopeTree name (settled known z body)
settled known z (LoopTree count body) = LoopTree count (settled known z body)
settled known z (WhenTree condition body) = WhenTree condition (settled known z body)
settled known z (ChooseTree condition this other) =
    if nat_eq condition known
    then (if z then WhenTree condition (settled known z this) else settled known z other)
    else ChooseTree condition (settled known z this) (settled known z other)
settled known z tree = tree

-- a choice that is made
made : (holds : ℕ → Bool) (around condition : ℕ) (one two this other : Tree) (z : Bool) → holds condition ≡ z →
    parts holds condition one ≡ parts holds condition this → parts holds around two ≡ parts holds around other →
    parts holds around (if z then WhenTree condition one else two)
    ≡ parts holds around (ChooseTree condition this other)
made holds around condition one two this other true on first second = rw on first
made holds around condition one two this other false off first second = rw off second

-- and one that isn't
left : (holds : ℕ → Bool) (around condition : ℕ) (one two this other : Tree) (z : Bool) → holds condition ≡ z →
    parts holds condition one ≡ parts holds condition this → parts holds around two ≡ parts holds around other →
    parts holds around (ChooseTree condition one two) ≡ parts holds around (ChooseTree condition this other)
left holds around condition one two this other true on first second = rw on first
left holds around condition one two this other false off first second = rw off second

module _ (holds : ℕ → Bool) (known : ℕ) (z : Bool) (is : holds known ≡ z) where
  chosen : (around condition : ℕ) (this other : Tree) (s : Bool) → nat_eq condition known ≡ s →
      parts holds condition (settled known z this) ≡ parts holds condition this →
      parts holds around (settled known z other) ≡ parts holds around other →
      parts holds around (settled known z (ChooseTree condition this other))
      ≡ parts holds around (ChooseTree condition this other)
  chosen around condition this other true s first second =
      rw s
      (made holds around condition (settled known z this) (settled known z other) this other z
      (ap holds (eqb-true condition known s) ∙ is) first second)
  chosen around condition this other false s first second =
      rw s
      (left holds around condition (settled known z this) (settled known z other) this other (holds condition) refl first
      second)

  pub settled_has_the_parts : (around : ℕ) (tree : Tree) →
      parts holds around (settled known z tree) ≡ parts holds around tree
  settled_has_the_parts around (ThenTree first rest) =
      rw (settled_has_the_parts around first, settled_has_the_parts around rest) refl
  settled_has_the_parts around (ScopeTree name body) = settled_has_the_parts around body
  settled_has_the_parts around (LoopTree count body) = settled_has_the_parts around body
  settled_has_the_parts around (WhenTree condition body) = rw (settled_has_the_parts condition body) refl
  settled_has_the_parts around (ChooseTree condition this other) =
      chosen around condition this other (nat_eq condition known) refl
      (settled_has_the_parts condition this) (settled_has_the_parts around other)
  settled_has_the_parts around (DoTree mnemonic) = refl
  settled_has_the_parts around (WithTree mnemonic operand) = refl
  settled_has_the_parts around NoneTree = refl
  settled_has_the_parts around (LeaveTree name) = refl
  settled_has_the_parts around (LeaveIfTree name test) = refl
  settled_has_the_parts around AgainTree = refl
  settled_has_the_parts around (AgainIfTree test) = refl
  settled_has_the_parts around NeverTree = refl
