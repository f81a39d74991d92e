-- Which labels the lines of a block name that are kept, and how that is told for any set of conditions at once. This is
-- the project's own language of player code.
use Rattle.std.specs.Prelude.{◌≡◌, ℕ, ◌&&◌, ◌||◌, Bool, true, false, nat_eq, if◌then◌else◌}
use Rattle.std.specs.Prelude.{Option, Some, None, List, [], ◌∷◌}
use Rattle.scopes.specs.declared.line.Operand.{Operand}
use Rattle.scopes.specs.declared.line.Operand.TheVariants.{Var, Own, Entry}
use Rattle.scopes.specs.Trees.{Tree, WithTree, ThenTree, ScopeTree, LoopTree, WhenTree, ChooseTree}
use Rattle.scope_calls.specs.Entrances.{Entrance}

-- ---- where these conditions hold

abbrev pub operand_names : Operand → ℕ → Bool
operand_names (Var label) other = nat_eq label other
operand_names (Own label) other = nat_eq label other
operand_names (Entry label) other = nat_eq label other
operand_names operand other = false

-- whether a line names this label that is kept
abbrev pub names : (ℕ → Bool) → Tree → ℕ → Bool
names holds (WithTree mnemonic operand) label = operand_names operand label
names holds (ThenTree first rest) label = names holds first label || names holds rest label
names holds (ScopeTree name body) label = names holds body label
names holds (LoopTree count body) label = names holds body label
names holds (WhenTree condition body) label = holds condition && names holds body label
names holds (ChooseTree condition this other) label =
    if holds condition then names holds this label else names holds other label
names holds tree label = false

-- an entrance names the label in front of it, and those of its blocks
abbrev pub voice_names : (ℕ → Bool) → Option Tree → ℕ → Bool
voice_names holds None label = false
voice_names holds (Some voice) label = names holds voice label

abbrev pub entrance_names : (ℕ → Bool) → Entrance → ℕ → Bool
entrance_names holds e label =
    nat_eq e.label label || (names holds e.first label || voice_names holds e.voice label)

-- ---- for any conditions

-- Something stands under any of these conditions: where one of them holds, and always where there are none.
abbrev pub any_holds : (ℕ → Bool) → List ℕ → Bool
any_holds holds [] = false
any_holds holds (condition ∷ conditions) = holds condition || any_holds holds conditions

abbrev pub stands_under : (ℕ → Bool) → List ℕ → Bool
stands_under holds [] = true
stands_under holds conditions = any_holds holds conditions

abbrev pub is_one_of : List ℕ → ℕ → Bool
is_one_of [] condition = false
is_one_of (first ∷ conditions) condition = nat_eq first condition || is_one_of conditions condition

-- one of these conditions is among those that a line stands under
abbrev pub have_one : List ℕ → List ℕ → Bool
have_one path [] = false
have_one path (condition ∷ conditions) = is_one_of path condition || have_one path conditions

abbrev pub is_covered : List ℕ → List ℕ → Bool
is_covered path [] = true
is_covered path conditions = have_one path conditions

abbrev pub operand_is_covered : (ℕ → List ℕ) → List ℕ → Operand → Bool
operand_is_covered asks path (Var label) = is_covered path (asks label)
operand_is_covered asks path (Own label) = is_covered path (asks label)
operand_is_covered asks path (Entry label) = is_covered path (asks label)
operand_is_covered asks path operand = true

-- whether each line of a tree that stands under these conditions stands, by these and those in the tree, under one of the
-- conditions that each label that it names asks for
abbrev pub are_covered : (ℕ → List ℕ) → List ℕ → Tree → Bool
are_covered asks path (WithTree mnemonic operand) = operand_is_covered asks path operand
are_covered asks path (ThenTree first rest) = are_covered asks path first && are_covered asks path rest
are_covered asks path (ScopeTree name body) = are_covered asks path body
are_covered asks path (LoopTree count body) = are_covered asks path body
are_covered asks path (WhenTree condition body) = are_covered asks (condition ∷ path) body
are_covered asks path (ChooseTree condition this other) =
    are_covered asks (condition ∷ path) this && are_covered asks path other
are_covered asks path tree = true

-- so a label that a kept line names stands where it does
abbrev pub NamedLabelsStand : Type 0
NamedLabelsStand =
    (asks : ℕ → List ℕ) (holds : ℕ → Bool) (tree : Tree) (label : ℕ) → are_covered asks [] tree ≡ true →
    names holds tree label ≡ true → stands_under holds (asks label) ≡ true
