-- A label that a kept line names stands, where the line has by one of its conditions what the label asks.
use Rattle.std.proofs.Common.{◌≡◌, ◌⊎◌, ℕ, Bool, true, false, nat_eq, List, [], ◌∷◌, inl, inr, refl, sym, ap}
use Rattle.std.proofs.Common.{◌∙◌, if◌then◌else◌}
use Rattle.std.proofs.lemmas.Bool.{and_parts, or_cases, or_left, or_right, false≢true, eqb-true}
use Rattle.scopes.specs.declared.line.Operand.{Operand}
use Rattle.scopes.specs.declared.line.Operand.TheVariants.{Var, Own, Entry}
use Rattle.scopes.specs.Trees.{Tree, DoTree, WithTree, NoneTree, ThenTree, ScopeTree, LeaveTree, LeaveIfTree, LoopTree}
use Rattle.scopes.specs.Trees.{AgainTree, AgainIfTree, WhenTree, ChooseTree, NeverTree}
use Rattle.narrow_runs.specs.Named.{names, operand_names, any_holds, stands_under, is_one_of, have_one, is_covered}
use Rattle.narrow_runs.specs.Named.{operand_is_covered, are_covered, NamedLabelsStand}

-- all of these conditions hold
record AllHold (holds : ℕ → Bool) (path : List ℕ) : Type 0 where
  each : (condition : ℕ) → is_one_of path condition ≡ true → holds condition ≡ true

none_hold : (holds : ℕ → Bool) → AllHold holds []
none_hold holds = record { each = λ condition e. absurd (false≢true e) }

one_more : (holds : ℕ → Bool) (first : ℕ) (path : List ℕ) → holds first ≡ true → AllHold holds path →
    AllHold holds (first ∷ path)
one_more holds first path here all = record {
  each = λ condition e. by_cases condition (or_cases (nat_eq first condition) (is_one_of path condition) e);
}
  where
    by_cases : (condition : ℕ) → (nat_eq first condition ≡ true) ⊎ (is_one_of path condition ≡ true) →
        holds condition ≡ true
    by_cases condition (inl e) = ap holds (sym (eqb-true first condition e)) ∙ here
    by_cases condition (inr e) = all.each condition e

-- one of the conditions holds
one_holds : (holds : ℕ → Bool) (path conditions : List ℕ) → AllHold holds path → have_one path conditions ≡ true →
    any_holds holds conditions ≡ true
one_holds holds path [] all e = absurd (false≢true e)
one_holds holds path (condition ∷ conditions) all e =
    by_cases (or_cases (is_one_of path condition) (have_one path conditions) e)
    (λ f. one_holds holds path conditions all f)
  where
    by_cases : (is_one_of path condition ≡ true) ⊎ (have_one path conditions ≡ true) →
        (have_one path conditions ≡ true → any_holds holds conditions ≡ true) →
        any_holds holds (condition ∷ conditions) ≡ true
    by_cases (inl f) rest = or_left (holds condition) (any_holds holds conditions) (all.each condition f)
    by_cases (inr f) rest = or_right (holds condition) (any_holds holds conditions) (rest f)

covered_stands : (holds : ℕ → Bool) (path conditions : List ℕ) → AllHold holds path →
    is_covered path conditions ≡ true → stands_under holds conditions ≡ true
covered_stands holds path [] all e = refl
covered_stands holds path (condition ∷ conditions) all e = one_holds holds path (condition ∷ conditions) all e

-- an operand names one label at most
named_stands : (asks : ℕ → List ℕ) (holds : ℕ → Bool) (path : List ℕ) (named label : ℕ) → AllHold holds path →
    is_covered path (asks named) ≡ true → nat_eq named label ≡ true → stands_under holds (asks label) ≡ true
named_stands asks holds path named label all covered e =
    covered_stands holds path (asks label) all
    (ap (λ l. is_covered path (asks l)) (sym (eqb-true named label e)) ∙ covered)

operands_stand : (asks : ℕ → List ℕ) (holds : ℕ → Bool) (path : List ℕ) (operand : Operand) (label : ℕ) →
    AllHold holds path → operand_is_covered asks path operand ≡ true → operand_names operand label ≡ true →
    stands_under holds (asks label) ≡ true
operands_stand asks holds path (Var named) label all covered e =
    named_stands asks holds path named label all covered e
operands_stand asks holds path (Own named) label all covered e =
    named_stands asks holds path named label all covered e
operands_stand asks holds path (Entry named) label all covered e =
    named_stands asks holds path named label all covered e
operands_stand asks holds path _ label all covered e = absurd (false≢true e)

-- of one of two lines
one_of_two : {A B C : Type 0} → A ⊎ B → (A → C) → (B → C) → C
one_of_two (inl a) this other = this a
one_of_two (inr b) this other = other b

chosen : {C : Type 0} (z p q : Bool) → (if z then p else q) ≡ true → (z ≡ true → p ≡ true → C) →
    (q ≡ true → C) → C
chosen true p q e this other = this refl e
chosen false p q e this other = other e

-- on a path of conditions that hold
on_path : (asks : ℕ → List ℕ) (holds : ℕ → Bool) (path : List ℕ) (tree : Tree) (label : ℕ) → AllHold holds path →
    are_covered asks path tree ≡ true → names holds tree label ≡ true → stands_under holds (asks label) ≡ true
on_path asks holds path (WithTree mnemonic operand) label all covered e =
    operands_stand asks holds path operand label all covered e
on_path asks holds path (ThenTree first rest) label all covered e =
    let parts = and_parts (are_covered asks path first) (are_covered asks path rest) covered in
    one_of_two (or_cases (names holds first label) (names holds rest label) e)
    (λ f. on_path asks holds path first label all parts.0 f) (λ f. on_path asks holds path rest label all parts.1 f)
on_path asks holds path (ScopeTree name body) label all covered e = on_path asks holds path body label all covered e
on_path asks holds path (LoopTree count body) label all covered e = on_path asks holds path body label all covered e
on_path asks holds path (WhenTree condition body) label all covered e =
    let parts = and_parts (holds condition) (names holds body label) e in
    on_path asks holds (condition ∷ path) body label (one_more holds condition path parts.0 all) covered parts.1
on_path asks holds path (ChooseTree condition this other) label all covered e =
    let parts = and_parts (are_covered asks (condition ∷ path) this) (are_covered asks path other) covered in
    chosen (holds condition) (names holds this label) (names holds other label) e
    (λ h f. on_path asks holds (condition ∷ path) this label (one_more holds condition path h all) parts.0 f)
    (λ f. on_path asks holds path other label all parts.1 f)
on_path asks holds path (DoTree mnemonic) label all covered e = absurd (false≢true e)
on_path asks holds path NoneTree label all covered e = absurd (false≢true e)
on_path asks holds path (LeaveTree name) label all covered e = absurd (false≢true e)
on_path asks holds path (LeaveIfTree name test) label all covered e = absurd (false≢true e)
on_path asks holds path AgainTree label all covered e = absurd (false≢true e)
on_path asks holds path (AgainIfTree test) label all covered e = absurd (false≢true e)
on_path asks holds path NeverTree label all covered e = absurd (false≢true e)

pub named_labels_stand : NamedLabelsStand
named_labels_stand asks holds tree label covered e = on_path asks holds [] tree label (none_hold holds) covered e
