-- The lines of the variables: which labels they name and where, and how many bytes they take.
use Rattle.std.proofs.Common.{◌≡◌, ℕ, zero, suc, ◌+◌, ◌-◌, ◌<◌, ◌≤◌, Bool, true, false, cond, nat_eq}
use Rattle.std.proofs.Common.{List, [], ◌∷◌, ◌++◌, length, map, filter, refl, sym, ap, ◌∙◌}
use Rattle.std.proofs.Common.{subst, arith, append_assoc, inl, inr}
use Rattle.std.specs.List.{range_with_len}
use Rattle.std.proofs.lemmas.Bool.{eq-eqb, eqb-true, cases_lt}
use Rattle.asm6502.specs.declared.lines.Line.{Line}
use Rattle.asm6502.specs.Lines.{size_of, kept}
use Rattle.asm6502.proofs.Laws.{size_of-append, kept-append}
use Rattle.player_memory.specs.declared.labels.TheConstants.{VARIABLES}
use Rattle.player_code.specs.CodeLines.{name, byte_line, names_from, names_at, variable_lines}
use Rattle.player_code.proofs.Naming.{Naming, none_named, one_named, joined, weaker}
use Rattle.player_code.proofs.Places.{StandsAt, stands_in_front, stands_behind, name_stands}

-- labels in a row
abbrev pub InRow : ℕ → ℕ → ℕ → Type 0
InRow first count label = (first ≤ label) × (label < first + count)

-- ---- names take no bytes, and are kept

labels_size : (labels : List ℕ) → size_of (map name labels) ≡ 0
labels_size [] = refl
labels_size (label ∷ labels) = (let rest = labels_size labels in omega (arith, rest))

labels_kept : (set : ℕ) (labels : List ℕ) → kept set (map name labels) ≡ map name labels
labels_kept set [] = refl
labels_kept set (label ∷ labels) = ap (λ ls. name label ∷ ls) (labels_kept set labels)

pub names_size : (places : ℕ → ℕ) (place : ℕ) → size_of (names_at places place) ≡ 0
unfolding names_at
names_size places place = labels_size _

pub names_kept : (set : ℕ) (places : ℕ → ℕ) (place : ℕ) → kept set (names_at places place) ≡ names_at places place
unfolding names_at
names_kept set places place = labels_kept set _

-- ---- each label of a place is named there

module _ (places : ℕ → ℕ) (place : ℕ) where
  first_or_later : (first label : ℕ) (rest : List ℕ) (z : Bool) → nat_eq (places first) place ≡ z → first ≤ label →
      places label ≡ place → (first < label → StandsAt (map name rest) label 0) →
      StandsAt (map name (cond z (first ∷ rest) rest)) label 0
  first_or_later first label rest true e low same later =
      elim (cases_lt first label) [
        | inl less ↦ stands_behind (name first ∷ []) (map name rest) label 0 0 refl (later less)
        | inr more ↦
            subst (λ l. StandsAt (name first ∷ map name rest) l 0) (omega (arith, low, more))
            (name_stands first (map name rest))
      ]
  first_or_later first label rest false e low same later =
      elim (cases_lt first label) [
        | inl less ↦ later less
        | inr more ↦
            let it : first ≡ label = omega (arith, low, more) in
            let is : nat_eq (places first) place ≡ true = eq-eqb (places first) place (ap places it ∙ same) in
            absurd (cc)
      ]

  pub names_stand : (first count label : ℕ) → InRow first count label → places label ≡ place →
      StandsAt (names_from places place first count) label 0
  names_stand first zero label row same = absurd (omega (arith, row))
  names_stand first (suc count) label row same =
      first_or_later first label (filter (λ l. nat_eq (places l) place) (range_with_len (first + 1) count))
      (nat_eq (places first) place) refl row.0 same
      (λ less. names_stand (first + 1) count label (omega (arith, less), omega (arith, row)) same)

  -- and no other, and none twice
  abbrev pub HasPlace : ℕ → ℕ → ℕ → Type 0
  HasPlace first count label = InRow first count label × (places label ≡ place)

  one_more : (first count : ℕ) (rest : List ℕ) (z : Bool) → nat_eq (places first) place ≡ z →
      Naming (HasPlace (first + 1) count) (map name rest) →
      Naming (HasPlace first (suc count)) (map name (cond z (first ∷ rest) rest))
  one_more first count rest true e naming =
      joined (name first ∷ []) (map name rest) (one_named first) naming (λ label is has. omega (arith, is, has.0))
      (λ label is. ((omega (arith, is), omega (arith, is)), ap places is ∙ eqb-true (places first) place e))
      (λ label has. (let row = has.0 in ((omega (arith, row), omega (arith, row)), has.1)))
  one_more first count rest false e naming =
      weaker (map name rest) (λ label has. (let row = has.0 in ((omega (arith, row), omega (arith, row)), has.1)))
      naming

  pub names_name : (first count : ℕ) → Naming (HasPlace first count) (names_from places place first count)
  names_name first zero = weaker [] (λ label none. absurd none) (none_named [] (λ label. refl))
  names_name first (suc count) =
      one_more first count (filter (λ l. nat_eq (places l) place) (range_with_len (first + 1) count))
      (nat_eq (places first) place) refl (names_name (first + 1) count)

-- ---- from one label on

abbrev pub names_on : (ℕ → ℕ) → ℕ → ℕ → List Line
names_on places place label = names_from places place label (VARIABLES - label)

pub names_begin : (places : ℕ → ℕ) (place : ℕ) → names_on places place 0 ≡ names_at places place
unfolding names_at
names_begin places place = refl

module _ (places : ℕ → ℕ) (place label : ℕ) (below : label < VARIABLES) where
  abbrev later : List ℕ
  later = filter (λ l. nat_eq (places l) place) (range_with_len (label + 1) (VARIABLES - (label + 1)))

  next : (z : Bool) → nat_eq (places label) place ≡ z →
      names_on places place label ≡ map name (cond z (label ∷ later) later)
  next z e =
      let more : VARIABLES - label ≡ suc (VARIABLES - (label + 1)) = omega (arith, below) in
      ap (λ n. names_from places place label n) more ∙ ap (λ z. map name (cond z (label ∷ later) later)) e

  -- where lines are all of them but for those from this label on, and the label is named where it has the place, they
  -- are all of them but for those from the next label on
  pub named_here : (start before after : List Line) (line : Line) → before ++ names_on places place label ≡ start →
      after ≡ before ++ line ∷ [] → line ≡ name label → places label ≡ place →
      after ++ names_on places place (label + 1) ≡ start
  named_here start before after line all e is same =
      ap (λ ls. ls ++ names_on places place (label + 1)) (e ∙ ap (λ l. before ++ l ∷ []) is)
      ∙ (append_assoc before (name label ∷ []) (names_on places place (label + 1))
      ∙ (ap (λ ls. before ++ ls) (sym (next true (eq-eqb (places label) place same))) ∙ all))

  pub not_here : (start before after : List Line) → before ++ names_on places place label ≡ start → after ≡ before →
      (places label ≡ place → ⊥) → after ++ names_on places place (label + 1) ≡ start
  not_here start before after all e other =
      ap (λ ls. ls ++ names_on places place (label + 1)) e
      ∙ (ap (λ ls. before ++ ls) (sym (next false (differ (nat_eq (places label) place) refl))) ∙ all)
    where
      differ : (z : Bool) → nat_eq (places label) place ≡ z → nat_eq (places label) place ≡ false
      differ true e = absurd (other (eqb-true (places label) place e))
      differ false e = e

-- ---- the variables

module _ (places : ℕ → ℕ) where
  names_at_stand : (place label : ℕ) → label < VARIABLES → places label ≡ place →
      StandsAt (names_at places place) label 0
  unfolding names_at
  names_at_stand place label below same =
      names_stand places place 0 VARIABLES label (omega arith, omega (arith, below)) same

  names_at_name : (place : ℕ) →
      Naming (λ label. (label < VARIABLES) × (places label ≡ place)) (names_at places place)
  unfolding names_at
  names_at_name place =
      weaker (names_from places place 0 VARIABLES)
      (λ label has. (let row = has.0 in (omega (arith, row), has.1))) (names_name places place 0 VARIABLES)

  -- a label whose place is among those of the bytes is named at it
  pub variable_stands : (first : ℕ) (bytes : List ℕ) (label k : ℕ) → label < VARIABLES → places label ≡ first + k →
      k < length bytes → StandsAt (variable_lines places first bytes) label k
  variable_stands first [] label k low same below = absurd (omega (arith, below))
  variable_stands first (byte ∷ bytes) label zero low same below =
      stands_in_front (names_at places first) (byte_line byte ∷ variable_lines places (first + 1) bytes) label 0
      (names_at_stand first label low (omega (arith, same)))
  variable_stands first (byte ∷ bytes) label (suc k) low same below =
      subst (λ p. StandsAt (variable_lines places first (byte ∷ bytes)) label p) (omega arith)
      (stands_behind (names_at places first) (byte_line byte ∷ variable_lines places (first + 1) bytes) label 0 (1 + k)
      (names_size places first)
      (stands_behind (byte_line byte ∷ []) (variable_lines places (first + 1) bytes) label 1 k refl
      (variable_stands (first + 1) bytes label k low (omega (arith, same)) (omega (arith, below)))))

  abbrev pub IsVariable : ℕ → ℕ → ℕ → Type 0
  IsVariable first count label = (label < VARIABLES) × (first ≤ places label) × (places label < first + count)

  pub variables_name : (first : ℕ) (bytes : List ℕ) →
      Naming (IsVariable first (length bytes)) (variable_lines places first bytes)
  variables_name first [] = weaker [] (λ label none. absurd none) (none_named [] (λ label. refl))
  variables_name first (byte ∷ bytes) =
      joined (names_at places first) (byte_line byte ∷ variable_lines places (first + 1) bytes)
      (names_at_name first)
      (joined (byte_line byte ∷ []) (variable_lines places (first + 1) bytes)
      (none_named (byte_line byte ∷ []) (λ label. refl)) (variables_name (first + 1) bytes)
      (λ label none is. none) (λ label none. absurd none) (λ label is. is))
      (λ label one two. (let same = one.1 in let more = two.1 in omega (arith, same, more)))
      (λ label one. (let same = one.1 in (one.0, omega (arith, same), omega (arith, same))))
      (λ label two. (let low = two.1 in let high = two.2 in (two.0, omega (arith, low), omega (arith, high))))

  pub variables_size : (first : ℕ) (bytes : List ℕ) → size_of (variable_lines places first bytes) ≡ length bytes
  variables_size first [] = refl
  variables_size first (byte ∷ bytes) =
      let all = size_of-append (names_at places first) (byte_line byte ∷ variable_lines places (first + 1) bytes) in
      let names = names_size places first in
      let rest = variables_size (first + 1) bytes in
      omega (arith, all, names, rest)

  pub variables_kept : (set first : ℕ) (bytes : List ℕ) →
      kept set (variable_lines places first bytes) ≡ variable_lines places first bytes
  variables_kept set first [] = refl
  variables_kept set first (byte ∷ bytes) =
      let more = variable_lines places (first + 1) bytes in
      kept-append set (names_at places first) (byte_line byte ∷ more)
      ∙ (ap (λ ls. ls ++ (byte_line byte ∷ kept set more)) (names_kept set places first)
      ∙ ap (λ ls. names_at places first ++ byte_line byte ∷ ls) (variables_kept set (first + 1) bytes))
