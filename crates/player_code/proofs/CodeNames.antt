-- Which labels the lines of an image name: no label twice.
use Rattle.std.proofs.Common.{◌≡◌, ℕ, ◌<◌, ◌≤◌, ◌⊎◌, List, [], ◌∷◌, ◌++◌, All}
use Rattle.std.proofs.Common.{Some, refl, subst, arith, inl, inr}
use Rattle.std.proofs.lemmas.List.Elements.{All-head}
use Rattle.base.proofs.Laws.{same_some, All-append_right}
use Rattle.asm6502.specs.declared.lines.Item.{Item}
use Rattle.asm6502.specs.declared.lines.Item.TheVariants.{Label, Code, Bytes}
use Rattle.asm6502.specs.declared.lines.Line.{Line}
use Rattle.asm6502.specs.Lines.{label_named}
use Rattle.scope_calls.specs.Entrances.{Entrance, entrance_lines}
use Rattle.scope_calls.proofs.Laws.{entrance_names_none}
use Rattle.player_memory.specs.declared.labels.TheConstants.{VARIABLES}
use Rattle.player_code.specs.declared.labels.TheConstants.{INIT_CODE, PLAY_CODE}
use Rattle.player_code.specs.CodeLines.{name, variable_lines, jump_lines, front_lines, middle_lines}
use Rattle.player_code.specs.CodeLines.{lines_around}
use Rattle.player_code.specs.Plans.{IsListItem, IsListLine, IsData, Plan, IsPlan, plan_code, plan_lines, its_play, its_init}
use Rattle.player_code.proofs.Naming.{Naming, none_named, one_named, joined}
use Rattle.player_code.proofs.Variables.{variables_name}

-- ---- the code

abbrev pub InFront : ℕ → Type 0
InFront label = (label < VARIABLES) ⊎ (label ≡ PLAY_CODE)

abbrev pub InCode : ℕ → Type 0
InCode label = (label < VARIABLES) ⊎ (INIT_CODE ≤ label)

pub front_names : (places : ℕ → ℕ) (variables : List ℕ) → Naming InFront (front_lines places variables)
front_names places variables =
    joined jump_lines (variable_lines places 0 variables ++ name PLAY_CODE ∷ []) (none_named jump_lines (λ label. refl))
    (joined (variable_lines places 0 variables) (name PLAY_CODE ∷ []) (variables_name places 0 variables)
    (one_named PLAY_CODE)
    (λ label variable is. (let low = variable.0 in omega (arith, low, is))) (λ label variable. inl variable.0)
    (λ label is. inr is))
    (λ label none in_front. none) (λ label none. absurd none) (λ label in_front. in_front)

entrance_names : (e : Entrance) → Naming (λ label. ⊥) (entrance_lines e)
entrance_names e = none_named (entrance_lines e) (λ label. entrance_names_none label e)

pub around_names : (places : ℕ → ℕ) (variables : List ℕ) (play init : Entrance) →
    Naming InCode (lines_around places variables play init)
around_names places variables play init =
    joined (front_lines places variables) (entrance_lines play ++ (middle_lines ++ entrance_lines init))
    (front_names places variables)
    (joined (entrance_lines play) (middle_lines ++ entrance_lines init) (entrance_names play)
    (joined middle_lines (entrance_lines init) (one_named INIT_CODE) (entrance_names init)
    (λ label is none. none) (λ label is. is) (λ label none. absurd none))
    (λ label none is. none) (λ label none. absurd none) (λ label is. is))
    (λ label in_front is. apart label in_front is) (λ label in_front. front label in_front)
    (λ label is. inr (omega (arith, is)))
  where
    apart : (label : ℕ) → InFront label → label ≡ INIT_CODE → ⊥
    apart label (inl low) is = omega (arith, low, is)
    apart label (inr other) is = omega (arith, other, is)

    front : (label : ℕ) → InFront label → InCode label
    front label (inl low) = inl low
    front label (inr is) = inr (omega (arith, is))

-- ---- the lists

abbrev pub IsOfLists : ℕ → Type 0
IsOfLists label = (VARIABLES ≤ label) × (label < INIT_CODE)

list_label : (item : Item) (label : ℕ) → IsListItem item → label_named item ≡ Some label → IsOfLists label
list_label (Label other) label within e = subst IsOfLists (same_some _ _ e) within
list_label (Code mnemonic mode operand) label within e = absurd within
list_label (Bytes bytes) label within e = absurd (cc)

pub lists_name : (lists : List Line) → IsData lists → Naming IsOfLists lists
lists_name lists is = record { named = named; once = is.once } where
  named : (before : List Line) (line : Line) (after : List Line) (label : ℕ) → lists ≡ before ++ line ∷ after →
      label_named line.item ≡ Some label → IsOfLists label
  named before line after label e n =
      let held : All IsListLine (before ++ line ∷ after) = subst (λ ls. All IsListLine ls) e is.lines in
      let one = All-head IsListLine line after (All-append_right IsListLine before (line ∷ after) held) in
      list_label line.item label one.item n

-- ---- all of it

pub code_names : (plan : Plan) → Naming InCode (plan_code plan)
code_names plan = around_names plan.places plan.variables (its_play plan) (its_init plan)

pub not_in_code : (label : ℕ) → IsOfLists label → InCode label → ⊥
not_in_code label within (inl low) = omega (arith, low, within)
not_in_code label within (inr high) = omega (arith, high, within)

pub plan_names : (plan : Plan) → IsPlan plan → Naming (λ label. Unit {0}) (plan_lines plan)
plan_names plan is =
    joined (plan_code plan) plan.lists (code_names plan) (lists_name plan.lists is.lists)
    (λ label code within. not_in_code label within code) (λ label code. tt) (λ label within. tt)
