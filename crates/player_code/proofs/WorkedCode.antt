-- The worked plans.
use Rattle.std.proofs.Common.{◌≡◌, ℕ, zero, suc, ◌+◌, ◌<◌, ◌≤◌, ◌&&◌, ◌||◌, Bool, true, false, List}
use Rattle.std.proofs.Common.{[], ◌∷◌}
use Rattle.std.proofs.Common.{length, replicate, All, not, ◌==◌, ◌-◌, nat_le, refl, ap, subst, arith, inl, inr}
use Rattle.std.proofs.lemmas.List.{length-replicate}
use Rattle.std.proofs.lemmas.Bool.{or_cases, and_parts, leb-true, eqb-true}
use Rattle.std.proofs.lemmas.List.Elements.{All-nil, All-cons, All-head}
use Rattle.cpu6502.specs.declared.mnemonic.Mnemonic.TheVariants.{Rts}
use Rattle.cpu6502.specs.declared.mnemonic.Mode.TheVariants.{Implied}
use Rattle.asm6502.specs.declared.lines.Operand.TheVariants.{Nothing}
use Rattle.asm6502.specs.declared.lines.Item.TheVariants.{Label}
use Rattle.asm6502.specs.declared.lines.Line.{Line}
use Rattle.asm6502.specs.Stretches.{IsNamedAlways}
use Rattle.scope_lines.specs.Instructions.{code}
use Rattle.scope_lines.specs.Sizes.{size}
use Rattle.player_text.specs.Facts.{is_list, is_filter_list, is_order_list}
use Rattle.player_text.proofs.Laws.{are_measured}
use Rattle.player_text.specs.declared.texts.Start.{Start}
use Rattle.player_text.specs.Texts.{filter_tree, voice_tree, init_tree}
use Rattle.player_memory.specs.declared.labels.TheConstants.{VARIABLES, FIRST_CLEARED, LENT, FREQUENCY_LOWS, ONE_WAVE}
use Rattle.player_memory.specs.declared.labels.TheConstants.{SLIDES_LOW, SLIDES_HIGH, FILTER_LEFTS, NEXT_FILTER_LEFTS}
use Rattle.player_memory.specs.declared.labels.TheConstants.{FILTER_RIGHTS, ORDERS_LOW, ORDERS_HIGH, GATE_FROM}
use Rattle.player_memory.specs.declared.labels.TheConstants.{ENVELOPE_FROM}
use Rattle.player_memory.specs.declared.conditions.TheConstants.{FIRST_HOLDS}
use Rattle.player_code.specs.declared.labels.TheConstants.{INIT_CODE}
use Rattle.player_code.specs.CodeLines.{name, byte_line, names_at, cleared_of}
use Rattle.player_code.specs.Plans.{IsListLine, IsData, Plan, IsPlan, is_read, code_size}
use Rattle.player_code.specs.WorkedCode.{labelled_lines, worked_lists, plan_with, worked_plan}
use Rattle.player_code.specs.WorkedCode.{VariablesAreNamed, PlansAreMet, PlansAreRefused, CodeIsMeasured}
use Rattle.player_code.specs.WorkedCode.{ListsAreRefused}
use Rattle.player_code.proofs.Naming.{Naming, none_named, one_named, joined, weaker}
use Rattle.player_code.proofs.Places.{name_named, named_behind}
use Rattle.player_code.proofs.Variables.{InRow}
use Rattle.player_code.specs.CodeLaws.{code_takes}
use Rattle.player_code.proofs.CodeSizes.{code_takes_its_blocks}

pub variables_are_named : VariablesAreNamed
unfolding names_at
variables_are_named = refl

-- ---- the lists

-- the labels in a row are named, and no other
labelled_name : (first : ℕ) (bytes : List ℕ) → Naming (InRow first (length bytes)) (labelled_lines first bytes)
labelled_name first [] = weaker [] (λ label none. absurd none) (none_named [] (λ label. refl))
labelled_name first (byte ∷ bytes) =
    joined (name first ∷ []) (byte_line byte ∷ labelled_lines (first + 1) bytes) (one_named first)
    (joined (byte_line byte ∷ []) (labelled_lines (first + 1) bytes) (none_named (byte_line byte ∷ []) (λ label. refl))
    (labelled_name (first + 1) bytes) (λ label none in_row. none) (λ label none. absurd none)
    (λ label in_row. in_row))
    (λ label is in_row. omega (arith, is, in_row)) (λ label is. (omega (arith, is), omega (arith, is)))
    (λ label in_row. (omega (arith, in_row), omega (arith, in_row)))

labelled_named : (first k : ℕ) (bytes : List ℕ) → k < length bytes →
    IsNamedAlways (labelled_lines first bytes) (first + k)
labelled_named first k [] below = absurd (omega (arith, below))
labelled_named first zero (byte ∷ bytes) below =
    subst (λ label. IsNamedAlways (labelled_lines first (byte ∷ bytes)) label) (omega arith)
    (name_named first (byte_line byte ∷ labelled_lines (first + 1) bytes))
labelled_named first (suc k) (byte ∷ bytes) below =
    named_behind (name first ∷ byte_line byte ∷ []) (labelled_lines (first + 1) bytes) (first + suc k)
    (subst (λ label. IsNamedAlways (labelled_lines (first + 1) bytes) label) (omega arith)
    (labelled_named (first + 1) k bytes (omega (arith, below))))

lines_are : (first : ℕ) (bytes : List ℕ) → VARIABLES ≤ first → first + length bytes ≤ INIT_CODE →
    All IsListLine (labelled_lines first bytes)
lines_are first [] low high = All-nil IsListLine
lines_are first (byte ∷ bytes) low high =
    All-cons IsListLine (name first) (byte_line byte ∷ labelled_lines (first + 1) bytes)
    (record { part = refl; item = (low, omega (arith, high)) })
    (All-cons IsListLine (byte_line byte) (labelled_lines (first + 1) bytes) (record { part = refl; item = tt })
    (lines_are (first + 1) bytes (omega (arith, low)) (omega (arith, high))))

-- what is read is in the row
within : (label : ℕ) → is_read label ≡ true → (FREQUENCY_LOWS ≤ label) × (label < FREQUENCY_LOWS + 36)
within label e =
    elim (or_cases (is_list label || is_filter_list label) (is_order_list label) e) [
      | inl lists ↦
          elim (or_cases (is_list label) (is_filter_list label) lists) [
            | inl list ↦ in_list label list
            | inr filter ↦ in_filter label filter
          ]
      | inr orders ↦ in_orders label orders
    ]
  where
    same : (label other : ℕ) → (FREQUENCY_LOWS ≤ other) → (other < FREQUENCY_LOWS + 36) → (label == other) ≡ true →
        (FREQUENCY_LOWS ≤ label) × (label < FREQUENCY_LOWS + 36)
    same label other low high e = (let is = eqb-true label other e in (omega (arith, is, low), omega (arith, is, high)))

    in_row : (label : ℕ) → (nat_le FREQUENCY_LOWS label && nat_le label ONE_WAVE) ≡ true →
        (FREQUENCY_LOWS ≤ label) × (label < FREQUENCY_LOWS + 36)
    in_row label row =
        let both = and_parts (nat_le FREQUENCY_LOWS label) (nat_le label ONE_WAVE) row in
        let least = leb-true FREQUENCY_LOWS label both.0 in
        let most = leb-true label ONE_WAVE both.1 in
        (least, omega (arith, most))

    in_slides : (label : ℕ) →
        (nat_le FREQUENCY_LOWS label && nat_le label ONE_WAVE || label == SLIDES_LOW || label == SLIDES_HIGH) ≡ true →
        (FREQUENCY_LOWS ≤ label) × (label < FREQUENCY_LOWS + 36)
    in_slides label e =
        elim (or_cases (nat_le FREQUENCY_LOWS label && nat_le label ONE_WAVE || label == SLIDES_LOW)
        (label == SLIDES_HIGH) e) [
          | inl low ↦
              elim (or_cases (nat_le FREQUENCY_LOWS label && nat_le label ONE_WAVE) (label == SLIDES_LOW) low) [
                | inl row ↦ in_row label row
                | inr slides ↦ same label SLIDES_LOW (omega arith) (omega arith) slides
              ]
          | inr slides ↦ same label SLIDES_HIGH (omega arith) (omega arith) slides
        ]

    in_others : (label : ℕ) →
        (nat_le FREQUENCY_LOWS label && nat_le label ONE_WAVE || label == SLIDES_LOW || label == SLIDES_HIGH
        || label == GATE_FROM) ≡ true → (FREQUENCY_LOWS ≤ label) × (label < FREQUENCY_LOWS + 36)
    in_others label e =
        elim (or_cases (nat_le FREQUENCY_LOWS label && nat_le label ONE_WAVE || label == SLIDES_LOW
        || label == SLIDES_HIGH) (label == GATE_FROM) e) [
          | inl slides ↦ in_slides label slides
          | inr gates ↦ same label GATE_FROM (omega arith) (omega arith) gates
        ]

    in_list : (label : ℕ) → is_list label ≡ true → (FREQUENCY_LOWS ≤ label) × (label < FREQUENCY_LOWS + 36)
    in_list label e =
        elim (or_cases (nat_le FREQUENCY_LOWS label && nat_le label ONE_WAVE || label == SLIDES_LOW
        || label == SLIDES_HIGH || label == GATE_FROM) (label == ENVELOPE_FROM) e) [
          | inl others ↦ in_others label others
          | inr envelopes ↦ same label ENVELOPE_FROM (omega arith) (omega arith) envelopes
        ]

    in_filter : (label : ℕ) → is_filter_list label ≡ true → (FREQUENCY_LOWS ≤ label) × (label < FREQUENCY_LOWS + 36)
    in_filter label e =
        elim (or_cases (label == FILTER_LEFTS || label == NEXT_FILTER_LEFTS) (label == FILTER_RIGHTS) e) [
          | inl lefts ↦
              elim (or_cases (label == FILTER_LEFTS) (label == NEXT_FILTER_LEFTS) lefts) [
                | inl this ↦ same label FILTER_LEFTS (omega arith) (omega arith) this
                | inr next ↦ same label NEXT_FILTER_LEFTS (omega arith) (omega arith) next
              ]
          | inr rights ↦ same label FILTER_RIGHTS (omega arith) (omega arith) rights
        ]

    in_orders : (label : ℕ) → is_order_list label ≡ true → (FREQUENCY_LOWS ≤ label) × (label < FREQUENCY_LOWS + 36)
    in_orders label e =
        elim (or_cases (label == ORDERS_LOW) (label == ORDERS_HIGH) e) [
          | inl low ↦ same label ORDERS_LOW (omega arith) (omega arith) low
          | inr high ↦ same label ORDERS_HIGH (omega arith) (omega arith) high
        ]

read_named : (label : ℕ) → is_read label ≡ true → IsNamedAlways worked_lists label
read_named label e =
    let row = within label e in
    subst (λ l. IsNamedAlways worked_lists l) (omega (arith, row))
    (labelled_named FREQUENCY_LOWS (label - FREQUENCY_LOWS) (replicate 36 0) (omega (arith, row)))

worked_is : IsData worked_lists
worked_is = record {
  lines = lines_are FREQUENCY_LOWS (replicate 36 0) (omega arith) (omega arith);
  once = (labelled_name FREQUENCY_LOWS (replicate 36 0)).once;
  tables = read_named;
}

-- ---- plans

module _ (places : ℕ → ℕ) (variables : ℕ) (holds : ℕ → Bool) where
  plan_is : FIRST_CLEARED < variables → variables ≤ VARIABLES → ((label : ℕ) → label < VARIABLES → places label < variables) →
      IsPlan (plan_with places variables holds)
  plan_is some few below =
      let count = length-replicate {A = ℕ} variables 0 in record {
        variables_low = omega (arith, count, some);
        variables_high = omega (arith, count, few);
        places = λ label low. (let its = below label low in omega (arith, count, its));
        pointer_low = omega arith;
        pointer_high = omega arith;
        start = record { tempo = omega arith; funk = omega arith; timer_low = omega arith; timer_high = omega arith };
        lists = worked_is;
      }

pub plans_are_met : PlansAreMet
plans_are_met = record {
  worked = λ holds. plan_is (λ label. label) 113 holds (omega arith) (omega arith) (λ label low. omega (arith, low));
  small = λ holds. plan_is (λ label. label - 33) 80 holds (omega arith) (omega arith) (λ label low. omega (arith, low));
}

pub plans_are_refused : PlansAreRefused
plans_are_refused = record {
  none = λ holds is. (let low = is.variables_low in omega (arith, low));
  more = λ holds is. (let high = is.variables_high in omega (arith, high));
  behind = λ holds is. (let last = is.places 112 (omega arith) in omega (arith, last));
}

-- ---- how many bytes the code takes

takes : (plan : Plan) → code_size plan ≡ code_takes plan.holds plan.start (length plan.variables)
takes plan = code_takes_its_blocks plan.places plan.variables plan.pointer plan.holds plan.start

sums : (all variables filter voice init n f v i : ℕ) → all ≡ 22 + n + f + v + i → n ≡ variables → f ≡ filter →
    v ≡ voice → i ≡ init → all ≡ 22 + variables + filter + voice + init
sums all variables filter voice init n f v i e count one two three = omega (arith, e, count, one, two, three)

bounds : (all n f v i : ℕ) → all ≡ 22 + n + f + v + i → n ≤ 113 → f ≤ 102 → v ≤ 1338 → i ≤ 92 → all ≤ 1667
bounds all n f v i e few one two three = omega (arith, e, few, one, two, three)

bare : (places : ℕ → ℕ) (variables : ℕ) →
    code_size (plan_with places variables (λ condition. false)) ≡ 22 + variables + 16 + 312 + 46
bare places variables =
    let plan = plan_with places variables (λ condition. false) in
    let init = are_measured.init plan.start (cleared_of (length plan.variables)) in
    sums _ _ _ _ _ _ _ _ _ (takes plan) (length-replicate {A = ℕ} variables 0) are_measured.filter.takes_bare
    are_measured.voice.takes_bare init.takes_bare

full : (places : ℕ → ℕ) (variables : ℕ) →
    code_size (plan_with places variables (λ condition. true)) ≡ 22 + variables + 102 + 1336 + 92
full places variables =
    let plan = plan_with places variables (λ condition. true) in
    let init = are_measured.init plan.start (cleared_of (length plan.variables)) in
    sums _ _ _ _ _ _ _ _ _ (takes plan) (length-replicate {A = ℕ} variables 0) are_measured.filter.takes_full
    are_measured.voice.takes_full init.takes_full

-- the voices' code is longer where the first instrument holds no more than another; the other two are as they are
abbrev all_but_one : ℕ → Bool
all_but_one condition = not (condition == FIRST_HOLDS)

filter_long : size all_but_one filter_tree ≡ 102
filter_long = refl

voice_long : size all_but_one voice_tree ≡ 1338
voice_long = refl

init_long : (start : Start) (cleared : ℕ) → size all_but_one (init_tree start cleared) ≡ 92
init_long start cleared = refl

greatest : code_size (worked_plan all_but_one) ≡ 1667
greatest =
    let plan = worked_plan all_but_one in
    sums _ _ _ _ _ _ _ _ _ (takes plan) (length-replicate {A = ℕ} 113 0) filter_long voice_long
    (init_long plan.start (cleared_of (length plan.variables)))

pub code_is_measured : CodeIsMeasured
code_is_measured = record {
  bare = bare (λ label. label) 113;
  full = full (λ label. label) 113;
  small_bare = bare (λ label. label - 33) 80;
  small_full = full (λ label. label - 33) 80;
  greatest = greatest;
  most = λ plan is.
      bounds _ _ _ _ _ (takes plan) is.variables_high (are_measured.filter.takes_most plan.holds)
      (are_measured.voice.takes_most plan.holds)
      ((are_measured.init plan.start (cleared_of (length plan.variables))).takes_most plan.holds);
}

-- ---- no lists

pub lists_are_refused : ListsAreRefused
lists_are_refused = record {
  code_label = λ is. (let item = (All-head IsListLine (name INIT_CODE) worked_lists is.lines).item in omega (arith, item));
  variable = λ is. (let item = (All-head IsListLine (name LENT) worked_lists is.lines).item in omega (arith, item));
  instruction = λ is. (All-head IsListLine (code Rts Implied Nothing) worked_lists is.lines).item;
  part = λ is. (let part = (All-head IsListLine unkept worked_lists is.lines).part in omega (arith, part));
  twice = λ is. (let named = read_named SLIDES_HIGH refl in
      is.once.once [] (name SLIDES_HIGH) named.front named.line named.back SLIDES_HIGH
      (ap (λ ls. name SLIDES_HIGH ∷ ls) named.split) refl named.names);
  missing = λ is. (let named = is.tables ENVELOPE_FROM refl in
      let row =
      (labelled_name FREQUENCY_LOWS (replicate 35 0)).named named.front named.line named.back ENVELOPE_FROM
      named.split named.names in
      omega (arith, row));
} where
  unkept : Line
  unkept = record { part = 0; item = Label 300 }
