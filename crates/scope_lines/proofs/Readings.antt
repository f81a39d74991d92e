-- How lines are read from the first one on.
use Rattle.std.proofs.Common.{◌≡◌, ℕ, ◌⊎◌, inl, inr, true, List, [], ◌∷◌, refl, sym, ap, subst, ◌∙◌}
use Rattle.scopes.specs.declared.line.Line.{Line}
use Rattle.scopes.specs.declared.line.Line.TheVariants.{Do, With, Scope, Leave, LeaveIf, Loop, Again, AgainIf, When}
use Rattle.scopes.specs.declared.line.Line.TheVariants.{Choose, Or, Never, End}
use Rattle.scopes.specs.Trees.{Tree, DoTree, WithTree, ThenTree, ScopeTree, LeaveTree, LeaveIfTree, AgainTree}
use Rattle.scopes.specs.Trees.{AgainIfTree, LoopTree, WhenTree, ChooseTree, NeverTree}
use Rattle.scopes.specs.Trees.{Open, Lines, Other, put_before, led, opened}
use Rattle.scope_lines.specs.Readings.{first_of, behind_of, are_open, simple, is_simple}

-- what is open behind lines doesn't depend on their tree
behind_same : (one two : Tree) (more : List Open) → behind_of (Lines one ∷ more) ≡ behind_of (Lines two ∷ more)
behind_same one two [] = refl
behind_same one two (Lines tree ∷ more) = refl
behind_same one two (Other tree ∷ more) = refl

-- a tree in front
pub record Put (tree : Tree) (opens after : List Open) : Type 0 where
  pub here : are_open opens ≡ true
  pub first : first_of after ≡ ThenTree tree (first_of opens)
  pub behind : behind_of after ≡ behind_of opens

put_reads : (tree : Tree) (opens : List Open) → are_open (put_before tree opens) ≡ true →
    Put tree opens (put_before tree opens)
put_reads tree (Lines rest ∷ more) e =
    record { here = refl; first = refl; behind = behind_same (ThenTree tree rest) rest more }
put_reads tree (Other rest ∷ more) e = absurd (cc)
put_reads tree [] e = absurd (cc)

pub simple_reads : (line : Line) (opens : List Open) → is_simple line ≡ true → are_open (led line opens) ≡ true →
    Put (simple line) opens (led line opens)
simple_reads (Do mnemonic) opens s e = put_reads (DoTree mnemonic) opens e
simple_reads (With mnemonic operand) opens s e = put_reads (WithTree mnemonic operand) opens e
simple_reads (Leave name) opens s e = put_reads (LeaveTree name) opens e
simple_reads (LeaveIf name test) opens s e = put_reads (LeaveIfTree name test) opens e
simple_reads Again opens s e = put_reads AgainTree opens e
simple_reads (AgainIf test) opens s e = put_reads (AgainIfTree test) opens e
simple_reads Never opens s e = put_reads NeverTree opens e
simple_reads _ opens s e = absurd (cc)

-- lines that are opened: what is in them, and what is behind
pub record Nested (make : Tree → Tree) (opens after : List Open) : Type 0 where
  pub inner : are_open opens ≡ true
  pub outer : are_open (behind_of opens) ≡ true
  pub first : first_of after ≡ ThenTree (make (first_of opens)) (first_of (behind_of opens))
  pub behind : behind_of after ≡ behind_of (behind_of opens)

pub scope_reads : (name : ℕ) (opens : List Open) → are_open (led (Scope name) opens) ≡ true →
    Nested (ScopeTree name) opens (led (Scope name) opens)
scope_reads name (Lines body ∷ Lines rest ∷ more) e =
    record {
      inner = refl;
      outer = refl;
      first = refl;
      behind = behind_same
          (ThenTree (ScopeTree name body) rest) rest more;
    }
scope_reads name (Lines body ∷ Other rest ∷ more) e = absurd (cc)
scope_reads name (Lines body ∷ []) e = absurd (cc)
scope_reads name (Other body ∷ more) e = absurd (cc)
scope_reads name [] e = absurd (cc)

pub loop_reads : (count : ℕ) (opens : List Open) → are_open (led (Loop count) opens) ≡ true →
    Nested (LoopTree count) opens (led (Loop count) opens)
loop_reads count (Lines body ∷ Lines rest ∷ more) e =
    record {
      inner = refl;
      outer = refl;
      first = refl;
      behind = behind_same
          (ThenTree (LoopTree count body) rest) rest more;
    }
loop_reads count (Lines body ∷ Other rest ∷ more) e = absurd (cc)
loop_reads count (Lines body ∷ []) e = absurd (cc)
loop_reads count (Other body ∷ more) e = absurd (cc)
loop_reads count [] e = absurd (cc)

pub when_reads : (condition : ℕ) (opens : List Open) → are_open (led (When condition) opens) ≡ true →
    Nested (WhenTree condition) opens (led (When condition) opens)
when_reads condition (Lines body ∷ Lines rest ∷ more) e =
    record {
      inner = refl;
      outer = refl;
      first = refl;
      behind = behind_same
          (ThenTree (WhenTree condition body) rest) rest more;
    }
when_reads condition (Lines body ∷ Other rest ∷ more) e = absurd (cc)
when_reads condition (Lines body ∷ []) e = absurd (cc)
when_reads condition (Other body ∷ more) e = absurd (cc)
when_reads condition [] e = absurd (cc)

-- a choice: its two sides, and what is behind
pub record Chosen (condition : ℕ) (opens after : List Open) : Type 0 where
  pub this : are_open opens ≡ true
  pub other : are_open (behind_of opens) ≡ true
  pub outer : are_open (behind_of (behind_of opens)) ≡ true
  pub first : first_of after
      ≡ ThenTree (ChooseTree condition (first_of opens) (first_of (behind_of opens)))
      (first_of (behind_of (behind_of opens)))
  pub behind : behind_of after ≡ behind_of (behind_of (behind_of opens))

pub choose_reads : (condition : ℕ) (opens : List Open) → are_open (led (Choose condition) opens) ≡ true →
    Chosen condition opens (led (Choose condition) opens)
choose_reads condition (Lines this ∷ Other other ∷ Lines rest ∷ more) e = record {
  this = refl;
  other = refl;
  outer = refl;
  first = refl;
  behind = behind_same (ThenTree (ChooseTree condition this other) rest) rest more;
}
choose_reads condition (Lines this ∷ Other other ∷ Other rest ∷ more) e = absurd (cc)
choose_reads condition (Lines this ∷ Other other ∷ []) e = absurd (cc)
choose_reads condition (Lines this ∷ Lines other ∷ more) e = absurd (cc)
choose_reads condition (Lines this ∷ []) e = absurd (cc)
choose_reads condition (Other this ∷ more) e = absurd (cc)
choose_reads condition [] e = absurd (cc)

-- ---- ends

-- lines never begin with the other side of a choice
no_other_put : (tree other : Tree) (opens more : List Open) → put_before tree opens ≡ Other other ∷ more → ⊥
no_other_put tree other (Lines rest ∷ opens) more e = cc
no_other_put tree other (Other rest ∷ opens) more e = cc
no_other_put tree other [] more e = cc

no_other_led : (line : Line) (other : Tree) (opens more : List Open) → led line opens ≡ Other other ∷ more → ⊥
no_other_led (Do mnemonic) other opens more e = no_other_put _ other opens more e
no_other_led (With mnemonic operand) other opens more e = no_other_put _ other opens more e
no_other_led (Leave name) other opens more e = no_other_put _ other opens more e
no_other_led (LeaveIf name test) other opens more e = no_other_put _ other opens more e
no_other_led Again other opens more e = no_other_put _ other opens more e
no_other_led (AgainIf test) other opens more e = no_other_put _ other opens more e
no_other_led Never other opens more e = no_other_put _ other opens more e
no_other_led (Scope name) other (Lines body ∷ opens) more e = no_other_put _ other opens more e
no_other_led (Scope name) other (Other body ∷ opens) more e = cc
no_other_led (Scope name) other [] more e = cc
no_other_led (Loop count) other (Lines body ∷ opens) more e = no_other_put _ other opens more e
no_other_led (Loop count) other (Other body ∷ opens) more e = cc
no_other_led (Loop count) other [] more e = cc
no_other_led (When condition) other (Lines body ∷ opens) more e = no_other_put _ other opens more e
no_other_led (When condition) other (Other body ∷ opens) more e = cc
no_other_led (When condition) other [] more e = cc
no_other_led (Choose condition) other (Lines this ∷ Other side ∷ opens) more e = no_other_put _ other opens more e
no_other_led (Choose condition) other (Lines this ∷ Lines side ∷ opens) more e = cc
no_other_led (Choose condition) other (Lines this ∷ []) more e = cc
no_other_led (Choose condition) other (Other this ∷ opens) more e = cc
no_other_led (Choose condition) other [] more e = cc
no_other_led Or other (Lines side ∷ opens) more e = cc
no_other_led Or other (Other side ∷ opens) more e = cc
no_other_led Or other [] more e = cc
no_other_led End other (first ∷ opens) more e = cc
no_other_led End other [] more e = cc

no_other : (lines : List Line) (other : Tree) (more : List Open) → opened lines ≡ Other other ∷ more → ⊥
no_other [] other more e = cc
no_other (line ∷ lines) other more e = no_other_led line other (opened lines) more e

-- an end, and the mark between two sides: what is behind them
end_of : (opens : List Open) → ((other : Tree) (more : List Open) → opens ≡ Other other ∷ more → ⊥) →
    are_open (led End opens) ≡ true → behind_of (led End opens) ≡ opens
end_of (Lines rest ∷ more) none e = refl
end_of (Other rest ∷ more) none e = absurd (none rest more refl)
end_of [] none e = absurd (cc)

pub end_reads : (lines : List Line) → are_open (opened (End ∷ lines)) ≡ true →
    behind_of (opened (End ∷ lines)) ≡ opened lines
end_reads lines e = end_of (opened lines) (no_other lines) e

or_of : (opens : List Open) → are_open (led Or opens) ≡ true → behind_of (led Or opens) ≡ opens
or_of (Lines rest ∷ more) e = refl
or_of (Other rest ∷ more) e = absurd (cc)
or_of [] e = absurd (cc)

pub or_reads : (lines : List Line) → are_open (opened (Or ∷ lines)) ≡ true →
    behind_of (opened (Or ∷ lines)) ≡ opened lines
or_reads lines e = or_of (opened lines) e

-- ---- one line after the other

-- behind an end
pub ends_behind : (left : List Line) (line : Line) (rest : List Line) (all : List Open) → left ≡ line ∷ rest →
    (line ≡ End) ⊎ (line ≡ Or) → are_open (opened left) ≡ true → behind_of (opened left) ≡ all → opened rest ≡ all
ends_behind left line rest all e (inl is) o b =
    let same : left ≡ End ∷ rest = e ∙ ap (λ l. l ∷ rest) is in
    sym (end_reads rest (subst (λ ls. are_open (opened ls) ≡ true) same o))
    ∙ subst (λ ls. behind_of (opened ls) ≡ all) same b
ends_behind left line rest all e (inr is) o b =
    let same : left ≡ Or ∷ rest = e ∙ ap (λ l. l ∷ rest) is in
    sym (or_reads rest (subst (λ ls. are_open (opened ls) ≡ true) same o))
    ∙ subst (λ ls. behind_of (opened ls) ≡ all) same b
