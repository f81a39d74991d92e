-- The lines that are lowered so far, and those that are left, are those of all lines.
use Rattle.std.proofs.Common.{◌≡◌, ℕ, ◌+◌, ◌≤◌, Bool, true, false, List, ◌∷◌, ◌++◌, refl}
use Rattle.std.proofs.Common.{sym, ap, subst, ◌∙◌, arith, if◌then◌else◌}
use Rattle.std.proofs.lemmas.List.{append_assoc}
use Rattle.asm6502.specs.declared.lines.Line.{Line}
use Rattle.scopes.specs.declared.line.Line.{Line as Written}
use Rattle.scopes.specs.declared.line.Operand.TheVariants.{Number, Var, Own, Entry, Pointed, Pointer, Register}
use Rattle.scopes.specs.declared.line.Operand.TheVariants.{OwnRegister, Timer}
use Rattle.scopes.specs.declared.line.Line.TheVariants.{Do, With, Scope, Leave, LeaveIf, Loop, Again, AgainIf, When}
use Rattle.scopes.specs.declared.line.Line.TheVariants.{Choose, Or, Never, End}
use Rattle.scopes.specs.Trees.{Tree, ThenTree, ScopeTree, ChooseTree, Open, opened}
use Rattle.scope_lines.specs.Sizes.{size, own_size}
use Rattle.scope_lines.specs.Lines.{Around, in_scope, lines}
use Rattle.scope_lines.specs.Readings.{first_of, behind_of, are_open, simple, is_simple}
use Rattle.scope_lines.proofs.Readings.{scope_reads, choose_reads, simple_reads}

-- old lines from a place on, and what is open; new ones so far, the next place, and what is left
pub record Goes (A : Around) (old : List Line) (from : ℕ) (text : List Open) (new : List Line) (place : ℕ)
    (left : List Open) : Type 0 where
  pub is_open : are_open left ≡ true
  pub so_far : new ++ lines A place (first_of left) ≡ old ++ lines A from (first_of text)
  pub sized : place + size A.holds (first_of left) ≡ from + size A.holds (first_of text)
  pub behind : behind_of left ≡ behind_of text

-- one tree more
goes_on : (A : Around) (old : List Line) (from : ℕ) (text : List Open) (now : List Line) (here : ℕ) (left : List Open) →
    Goes A old from text now here left → (one : Tree) (after : List Open) → are_open after ≡ true →
    first_of left ≡ ThenTree one (first_of after) → behind_of left ≡ behind_of after → (new : List Line) (there : ℕ) →
    new ≡ now ++ lines A here one → there ≡ here + size A.holds one → Goes A old from text new there after
goes_on A old from text now here left g one after is_open first behind new there n t = record {
  is_open = is_open;
  so_far =
      ap (λ ls. ls ++ lines A there (first_of after)) n
      ∙ (ap (λ p. (now ++ lines A here one) ++ lines A p (first_of after)) t
      ∙ (append_assoc now (lines A here one) (lines A (here + size A.holds one) (first_of after))
      ∙ (ap (λ tree. now ++ lines A here tree) (sym first) ∙ g.so_far)));
  sized =
      (let s = ap (size A.holds) first in
      let all = g.sized in
      let sum : here + size A.holds (first_of left) ≡ here + (size A.holds one + size A.holds (first_of after)) =
      ap (λ k. here + k) s in
      omega (arith, t, sum, all));
  behind = sym behind ∙ g.behind;
}

-- a scope
pub scope_goes : {A : Around} {old : List Line} {from : ℕ} {text : List Open} {now : List Line} {here : ℕ}
    {left : List Written} {line : Written} {rest : List Written}
    (after : List Written) {name end : ℕ} {new : List Line} {there : ℕ} →
    Goes A old from text now here (opened left) → left ≡ line ∷ rest → line ≡ Scope name →
    opened after ≡ behind_of (opened rest) → end ≡ here + size A.holds (first_of (opened rest)) →
    new ≡ now ++ lines (in_scope name end A) here (first_of (opened rest)) →
    there ≡ here + size A.holds (first_of (opened rest)) → Goes A old from text new there (opened after)
scope_goes {A = A} {old = old} {from = from} {text = text} {now = now} {here = here} {left = left} {line = line}
    {rest = rest} after {name = name} {end = end} {new = new} {there = there} g e is behind ends n t =
    let same : left ≡ Scope name ∷ rest = e ∙ ap (λ l. l ∷ rest) is in
    let reads = scope_reads name (opened rest) (subst (λ ls. are_open (opened ls) ≡ true) same g.is_open) in
    goes_on A old from text now here (opened (Scope name ∷ rest))
    (subst (λ ls. Goes A old from text now here (opened ls)) same g)
    (ScopeTree name (first_of (opened rest))) (opened after) (subst (λ o. are_open o ≡ true) (sym behind) reads.outer)
    (reads.first ∙ ap (λ o. ThenTree (ScopeTree name (first_of (opened rest))) (first_of o)) (sym behind))
    (reads.behind ∙ ap behind_of (sym behind)) new there
    (n ∙ ap (λ k. now ++ lines (in_scope name k A) here (first_of (opened rest))) ends) t

-- a choice, of which one side is lowered
pub choose_goes : {A : Around} {old : List Line} {from : ℕ} {text : List Open} {now : List Line} {here : ℕ}
    {left : List Written} {line : Written} {rest : List Written}
    (or after : List Written) {condition : ℕ} {new : List Line} {there : ℕ} →
    Goes A old from text now here (opened left) → left ≡ line ∷ rest → line ≡ Choose condition →
    opened or ≡ behind_of (opened rest) → opened after ≡ behind_of (opened or) → (z : Bool) →
    A.holds condition ≡ z →
    new ≡ now ++ lines A here (if z then first_of (opened rest) else first_of (opened or)) →
    there ≡ here + size A.holds (if z then first_of (opened rest) else first_of (opened or)) →
    Goes A old from text new there (opened after)
choose_goes {A = A} {old = old} {from = from} {text = text} {now = now} {here = here} {left = left} {line = line}
    {rest = rest} or after {condition = condition} {new = new} {there = there} g e is between behind z
    holds n t =
    let same : left ≡ Choose condition ∷ rest = e ∙ ap (λ l. l ∷ rest) is in
    let reads = choose_reads condition (opened rest) (subst (λ ls. are_open (opened ls) ≡ true) same g.is_open) in
    let all : opened after ≡ behind_of (behind_of (opened rest)) = behind ∙ ap behind_of between in
    let tree = ChooseTree condition (first_of (opened rest)) (first_of (opened or)) in
    goes_on A old from text now here (opened (Choose condition ∷ rest))
    (subst (λ ls. Goes A old from text now here (opened ls)) same g) tree (opened after)
    (subst (λ o. are_open o ≡ true) (sym all) reads.outer)
    (reads.first
    ∙ (ap (λ o. ThenTree (ChooseTree condition (first_of (opened rest)) (first_of o))
    (first_of (behind_of (behind_of (opened rest))))) (sym between)
    ∙ ap (λ o. ThenTree tree (first_of o)) (sym all)))
    (reads.behind ∙ ap behind_of (sym all)) new there (n ∙ ap (λ ls. now ++ ls) (sym (chosen z holds)))
    (t ∙ ap (λ k. here + k) (sym (chosen_size z holds)))
  where
    chosen : (z : Bool) → A.holds condition ≡ z →
        lines A here (ChooseTree condition (first_of (opened rest)) (first_of (opened or)))
        ≡ lines A here (if z then first_of (opened rest) else first_of (opened or))
    chosen true h = rw h refl
    chosen false h = rw h refl

    chosen_size : (z : Bool) → A.holds condition ≡ z →
        size A.holds (ChooseTree condition (first_of (opened rest)) (first_of (opened or)))
        ≡ size A.holds (if z then first_of (opened rest) else first_of (opened or))
    chosen_size true h = rw h refl
    chosen_size false h = rw h refl

-- a line that opens nothing
pub simple_size : (holds : ℕ → Bool) (line : Written) → is_simple line ≡ true →
    size holds (simple line) ≡ own_size line
simple_size holds (Do mnemonic) e = refl
simple_size holds (With mnemonic operand) e = refl
simple_size holds (Leave name) e = refl
simple_size holds (LeaveIf name test) e = refl
simple_size holds Again e = refl
simple_size holds (AgainIf test) e = refl
simple_size holds Never e = refl
simple_size holds _ e = absurd (cc)

pub simple_goes : {A : Around} {old : List Line} {from : ℕ} {text : List Open} {now : List Line} {here : ℕ}
    {left : List Written} {line : Written} {rest : List Written} {new : List Line} {there : ℕ} →
    Goes A old from text now here (opened left) → left ≡ line ∷ rest → is_simple line ≡ true →
    new ≡ now ++ lines A here (simple line) → there ≡ here + own_size line →
    Goes A old from text new there (opened rest)
simple_goes {A = A} {old = old} {from = from} {text = text} {now = now} {here = here} {left = left} {line = line}
    {rest = rest} {new = new} {there = there} g e is n t =
    let reads = simple_reads line (opened rest) is (subst (λ ls. are_open (opened ls) ≡ true) e g.is_open) in
    goes_on A old from text now here (opened (line ∷ rest))
    (subst (λ ls. Goes A old from text now here (opened ls)) e g)
    (simple line) (opened rest) reads.here reads.first reads.behind new there n
    (t ∙ ap (λ k. here + k) (sym (simple_size A.holds line is)))

pub is_simple_if : (line : Written) → ((name : ℕ) → line ≡ Scope name → ⊥) → ((count : ℕ) → line ≡ Loop count → ⊥) →
    ((condition : ℕ) → line ≡ When condition → ⊥) → ((condition : ℕ) → line ≡ Choose condition → ⊥) →
    (line ≡ Or → ⊥) → (line ≡ End → ⊥) → is_simple line ≡ true
is_simple_if (Scope name) scope loop when choose or end = absurd (scope name refl)
is_simple_if (Loop count) scope loop when choose or end = absurd (loop count refl)
is_simple_if (When condition) scope loop when choose or end = absurd (when condition refl)
is_simple_if (Choose condition) scope loop when choose or end = absurd (choose condition refl)
is_simple_if Or scope loop when choose or end = absurd (or refl)
is_simple_if End scope loop when choose or end = absurd (end refl)
is_simple_if _ scope loop when choose or end = refl

pub own_most : (line : Written) → own_size line ≤ 3
own_most (With mnemonic (Number number)) = omega arith
own_most (With mnemonic (Var label)) = omega arith
own_most (With mnemonic (Own label)) = omega arith
own_most (With mnemonic (Entry label)) = omega arith
own_most (With mnemonic Pointed) = omega arith
own_most (With mnemonic (Pointer half)) = omega arith
own_most (With mnemonic (Register register)) = omega arith
own_most (With mnemonic (OwnRegister register)) = omega arith
own_most (With mnemonic (Timer half)) = omega arith
own_most (Do mnemonic) = omega arith
own_most (Leave name) = omega arith
own_most (LeaveIf name test) = omega arith
own_most Again = omega arith
own_most (AgainIf test) = omega arith
own_most _ = omega arith
