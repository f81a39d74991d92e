-- The bytes of the variables in the order of their places: how many they are, which label has a place, and that labels
-- behind those of the variables don't count.
use mathlib.Core.Path.{fun_ext}
use Rattle.std.proofs.Common.{◌≡◌, ℕ, zero, suc, ◌+◌, ◌-◌, ◌<◌, ◌≤◌, Bool, true, false, cond, nat_eq}
use Rattle.std.proofs.Common.{List, [], ◌∷◌, ◌++◌, length, map, filter, Option, Some, None}
use Rattle.std.proofs.Common.{refl, ap, ◌∙◌, arith}
use Rattle.std.specs.List.{range_with_len, find}
use Rattle.std.proofs.lemmas.Bool.{eq-eqb, eqb-true}
use Rattle.std.proofs.lemmas.List.FromFn.{length-map-range_with_len, map-range_with_len_more}
use Rattle.scope_calls.specs.Entrances.{entrance_lines}
use Rattle.player_memory.specs.declared.labels.TheConstants.{VARIABLES}
use Rattle.player_text.specs.declared.texts.Start.{Start}
use Rattle.player_code.specs.declared.labels.TheConstants.{PLAY_CODE}
use Rattle.player_code.specs.CodeLines.{name, byte_line, names_at, variable_lines, jump_lines, middle_lines, code_lines}
use Rattle.player_code.specs.CodeLines.{cleared_of, play_entrance, init_entrance}
use Rattle.player_image.specs.Images.{byte_of, label_at, placed}

-- there are so many
pub placed_length : (places : ℕ → ℕ) (count : ℕ) (variables : List ℕ) → length (placed places count variables) ≡ count
unfolding placed
placed_length places count variables =
    length-map-range_with_len (λ place. byte_of variables (label_at places place)) 0 count

-- ---- which label has a place

-- the first one from a label on
abbrev pub label_on : (ℕ → ℕ) → ℕ → ℕ → Option ℕ
label_on places place label = find (λ l. nat_eq (places l) place) (range_with_len label (VARIABLES - label))

module _ (places : ℕ → ℕ) (place label : ℕ) where
  abbrev later : Option ℕ
  later = find (λ l. nat_eq (places l) place) (range_with_len (label + 1) (VARIABLES - (label + 1)))

  next : label < VARIABLES → (z : Bool) → nat_eq (places label) place ≡ z →
      label_on places place label ≡ cond z (Some label) later
  next below z e =
      let more : VARIABLES - label ≡ suc (VARIABLES - (label + 1)) = omega (arith, below) in
      ap (λ n. find (λ l. nat_eq (places l) place) (range_with_len label n)) more
      ∙ ap (λ z. cond z (Some label) later) e

  pub label_here : label < VARIABLES → places label ≡ place → label_on places place label ≡ Some label
  label_here below same = next below true (eq-eqb (places label) place same)

  pub label_later : label < VARIABLES → (places label ≡ place → ⊥) →
      label_on places place label ≡ label_on places place (label + 1)
  label_later below other = next below false (differ (nat_eq (places label) place) refl)
    where
      differ : (z : Bool) → nat_eq (places label) place ≡ z → nat_eq (places label) place ≡ false
      differ true e = absurd (other (eqb-true (places label) place e))
      differ false e = e

  pub no_label : VARIABLES ≤ label → label_on places place label ≡ None
  no_label behind =
      let none : VARIABLES - label ≡ 0 = omega (arith, behind) in
      ap (λ n. find (λ l. nat_eq (places l) place) (range_with_len label n)) none

-- ---- one byte more

pub one_more : (places : ℕ → ℕ) (place : ℕ) (variables : List ℕ) →
    placed places (place + 1) variables
    ≡ placed places place variables ++ byte_of variables (label_at places place) ∷ []
unfolding placed
one_more places place variables =
    map-range_with_len_more (λ p. byte_of variables (label_at places p)) 0 place place (omega arith)

-- ---- places that are the same for each variable

module _ (one two : ℕ → ℕ) (same : (label : ℕ) → label < VARIABLES → one label ≡ two label) where
  -- the first of so many labels
  finds_same : (place first count : ℕ) → first + count ≤ VARIABLES →
      find (λ label. nat_eq (one label) place) (range_with_len first count)
      ≡ find (λ label. nat_eq (two label) place) (range_with_len first count)
  finds_same place first zero few = refl
  finds_same place first (suc count) few =
      ap (λ p.
      cond (nat_eq p place) (Some first)
      (find (λ label. nat_eq (one label) place) (range_with_len (first + 1) count)))
      (same first (omega (arith, few)))
      ∙ ap (λ (more : Option ℕ). cond (nat_eq (two first) place) (Some first) more)
      (finds_same place (first + 1) count (omega (arith, few)))

  -- all of them
  filters_same : (place first count : ℕ) → first + count ≤ VARIABLES →
      filter (λ label. nat_eq (one label) place) (range_with_len first count)
      ≡ filter (λ label. nat_eq (two label) place) (range_with_len first count)
  filters_same place first zero few = refl
  filters_same place first (suc count) few =
      ap (λ p.
      cond (nat_eq p place)
      (first ∷ filter (λ label. nat_eq (one label) place) (range_with_len (first + 1) count))
      (filter (λ label. nat_eq (one label) place) (range_with_len (first + 1) count)))
      (same first (omega (arith, few)))
      ∙ ap (λ (more : List ℕ). cond (nat_eq (two first) place) (first ∷ more) more)
      (filters_same place (first + 1) count (omega (arith, few)))

  pub placed_same : (count : ℕ) (variables : List ℕ) → placed one count variables ≡ placed two count variables
  unfolding placed
  placed_same count variables =
      ap (λ (labels : ℕ → Option ℕ). map (λ place. byte_of variables (labels place)) (range_with_len 0 count))
      (fun_ext (λ (place : ℕ). finds_same place 0 VARIABLES (omega arith)))

  names_same : (place : ℕ) → names_at one place ≡ names_at two place
  unfolding names_at
  names_same place = ap (map name) (filters_same place 0 VARIABLES (omega arith))

  lines_same : (first : ℕ) (bytes : List ℕ) → variable_lines one first bytes ≡ variable_lines two first bytes
  lines_same first [] = refl
  lines_same first (byte ∷ bytes) =
      ap (λ names. names ++ byte_line byte ∷ variable_lines one (first + 1) bytes) (names_same first)
      ∙ ap (λ rest. names_at two first ++ byte_line byte ∷ rest) (lines_same (first + 1) bytes)

  pub codes_same : (bytes : List ℕ) (pointer : ℕ) (holds : ℕ → Bool) (start : Start) →
      code_lines one bytes pointer holds start ≡ code_lines two bytes pointer holds start
  codes_same bytes pointer holds start =
      ap (λ variables.
      (jump_lines ++ (variables ++ name PLAY_CODE ∷ []))
      ++ (entrance_lines (play_entrance pointer holds)
      ++ (middle_lines ++ entrance_lines (init_entrance pointer holds start (cleared_of (length bytes))))))
      (lines_same 0 bytes)
