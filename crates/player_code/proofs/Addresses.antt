-- Where the labels of an image are, and that those which its lines use are always named.
use Rattle.std.proofs.Common.{◌≡◌, ℕ, ◌+◌, ◌<◌, ◌||◌, true, nat_lt, nat_eq}
use Rattle.std.proofs.Common.{List, [], ◌∷◌}
use Rattle.std.proofs.Common.{◌++◌, length, Some, unwrap_or, refl, sym, ap, ◌∙◌}
use Rattle.std.proofs.Common.{subst, arith, inl, inr, add_assoc}
use Rattle.std.proofs.lemmas.Bool.{or_cases, ltb-true, eqb-true, cases_lt}
use Rattle.asm6502.specs.declared.lines.Line.{Line}
use Rattle.asm6502.specs.Lines.{size_of, place_of, address_in}
use Rattle.asm6502.specs.Stretches.{IsNamedAlways, NamesOthers}
use Rattle.scope_calls.specs.Entrances.{Entrance, entrance_lines, entrance_size}
use Rattle.scope_calls.proofs.Laws.{entrances_take_size, entrance_names_none}
use Rattle.player_memory.specs.declared.labels.TheConstants.{VARIABLES}
use Rattle.player_code.specs.declared.labels.TheConstants.{INIT_CODE, PLAY_CODE}
use Rattle.player_code.specs.CodeLines.{name, variable_lines, jump_lines, front_lines, middle_lines}
use Rattle.player_code.specs.CodeLines.{lines_around}
use Rattle.player_code.specs.Plans.{IsData, is_read}
use Rattle.player_code.proofs.Naming.{no_place, placed_named}
use Rattle.player_code.proofs.CodeNames.{InFront, IsOfLists, front_names, around_names, lists_name, not_in_code}
use Rattle.player_code.proofs.Homes.{is_known}
use Rattle.player_code.proofs.Places.{placed_in_front, placed_behind, named_in_front, named_behind}
use Rattle.player_code.proofs.Places.{StandsAt, stands_in_front, stands_behind, stands_placed, name_named}
use Rattle.player_code.proofs.Variables.{variable_stands, variables_name, variables_size}
use Rattle.player_code.proofs.Sizes.{front_size}

-- the front's lines in front of the entrances' own
front_stands : (places : ℕ → ℕ) (variables : List ℕ) (label : ℕ) → label < VARIABLES →
    places label < length variables → StandsAt (front_lines places variables) label (6 + places label)
front_stands places variables label low below =
    stands_behind jump_lines (variable_lines places 0 variables ++ name PLAY_CODE ∷ []) label 6 (places label) refl
    (stands_in_front (variable_lines places 0 variables) (name PLAY_CODE ∷ []) label (places label)
    (variable_stands places 0 variables label (places label) low (omega arith) below))

front_variable : (places : ℕ → ℕ) (variables : List ℕ) (label : ℕ) → label < VARIABLES →
    places label < length variables → place_of (front_lines places variables) label ≡ Some (6 + places label)
front_variable places variables label low below =
    stands_placed (front_lines places variables) label (6 + places label) (front_names places variables).once
    (front_stands places variables label low below)

front_play : (places : ℕ → ℕ) (variables : List ℕ) →
    place_of (front_lines places variables) PLAY_CODE ≡ Some (6 + length variables)
front_play places variables =
    placed_behind jump_lines (variable_lines places 0 variables ++ name PLAY_CODE ∷ []) PLAY_CODE (length variables)
    refl
    (placed_behind (variable_lines places 0 variables) (name PLAY_CODE ∷ []) PLAY_CODE 0
    (no_place (variable_lines places 0 variables) PLAY_CODE (variables_name places 0 variables)
    (λ variable. (let low = variable.0 in omega (arith, low))))
    refl
    ∙ ap Some (let bytes = variables_size places 0 variables in omega (arith, bytes)))

-- a label that has a place is in the row of the lists
of_lists : (lists : List Line) (label place : ℕ) → IsData lists → place_of lists label ≡ Some place → IsOfLists label
of_lists lists label place is e =
    elim (cases_lt label VARIABLES) [
      | inl under ↦
          absurd (placed_named lists label place (lists_name lists is) e (λ within. omega (arith, under, within)))
      | inr over ↦
          elim (cases_lt label INIT_CODE) [
            | inl within ↦ (over, within)
            | inr behind ↦
                absurd (placed_named lists label place (lists_name lists is) e (λ within. omega (arith, behind, within)))
          ]
    ]

module _ (places : ℕ → ℕ) (variables : List ℕ) (play init : Entrance) (lists : List Line) (is : IsData lists) where
  -- what is in the front is there in the image
  in_image : (origin label place : ℕ) → place_of (front_lines places variables) label ≡ Some place →
      address_in (lines_around places variables play init ++ lists) origin label ≡ origin + place
  in_image origin label place e =
      ap (λ o. origin + unwrap_or o 0)
      (placed_in_front (lines_around places variables play init) lists label place
      (placed_in_front (front_lines places variables) (entrance_lines play ++ (middle_lines ++ entrance_lines init))
      label place e))

  pub variable_address : (origin label : ℕ) → label < VARIABLES → places label < length variables →
      address_in (lines_around places variables play init ++ lists) origin label ≡ origin + (6 + places label)
  variable_address origin label low below =
      in_image origin label (6 + places label) (front_variable places variables label low below)

  pub play_address : (origin : ℕ) →
      address_in (lines_around places variables play init ++ lists) origin PLAY_CODE ≡ origin + (6 + length variables)
  play_address origin = in_image origin PLAY_CODE (6 + length variables) (front_play places variables)

  pub init_address : (origin : ℕ) →
      address_in (lines_around places variables play init ++ lists) origin INIT_CODE
      ≡ origin + (6 + length variables + entrance_size play)
  init_address origin =
      ap (λ o. origin + unwrap_or o 0)
      (placed_in_front (lines_around places variables play init) lists INIT_CODE _
      (placed_behind (front_lines places variables) (entrance_lines play ++ (middle_lines ++ entrance_lines init))
      INIT_CODE _
      (no_place (front_lines places variables) INIT_CODE (front_names places variables) no_front)
      (placed_behind (entrance_lines play) (middle_lines ++ entrance_lines init) INIT_CODE 0
      (entrance_names_none INIT_CODE play) refl)))
      ∙ (let front = front_size places variables in
      let taken = entrances_take_size play in
      omega (arith, front, taken))
    where
      no_front : InFront INIT_CODE → ⊥
      no_front (inl low) = omega (arith, low)
      no_front (inr same) = omega (arith, same)

  pub list_address : (origin label place : ℕ) → place_of lists label ≡ Some place →
      address_in (lines_around places variables play init ++ lists) origin label
      ≡ origin + size_of (lines_around places variables play init) + place
  list_address origin label place e =
      ap (λ o. origin + unwrap_or o 0)
      (placed_behind (lines_around places variables play init) lists label place
      (no_place (lines_around places variables play init) label (around_names places variables play init)
      (not_in_code label (of_lists lists label place is e))) e)
      ∙ sym (add_assoc origin (size_of (lines_around places variables play init)) place)

  -- ---- those that are used are named

  front_always : (label : ℕ) → IsNamedAlways (front_lines places variables) label →
      IsNamedAlways (lines_around places variables play init ++ lists) label
  front_always label named =
      named_in_front (lines_around places variables play init) lists label
      (named_in_front (front_lines places variables) (entrance_lines play ++ (middle_lines ++ entrance_lines init))
      label named)

  variable_always : (label : ℕ) → label < VARIABLES → places label < length variables →
      IsNamedAlways (lines_around places variables play init ++ lists) label
  variable_always label low below = front_always label (front_stands places variables label low below).named

  play_always : IsNamedAlways (lines_around places variables play init ++ lists) PLAY_CODE
  play_always =
      front_always PLAY_CODE
      (named_behind jump_lines (variable_lines places 0 variables ++ name PLAY_CODE ∷ []) PLAY_CODE
      (named_behind (variable_lines places 0 variables) (name PLAY_CODE ∷ []) PLAY_CODE (name_named PLAY_CODE [])))

  init_always : IsNamedAlways (lines_around places variables play init ++ lists) INIT_CODE
  init_always =
      named_in_front (lines_around places variables play init) lists INIT_CODE
      (named_behind (front_lines places variables) (entrance_lines play ++ (middle_lines ++ entrance_lines init))
      INIT_CODE
      (named_behind (entrance_lines play) (middle_lines ++ entrance_lines init) INIT_CODE
      (name_named INIT_CODE (entrance_lines init))))

  known_always : ((label : ℕ) → label < VARIABLES → places label < length variables) → (label : ℕ) →
      is_known label ≡ true → IsNamedAlways (lines_around places variables play init ++ lists) label
  known_always below label e =
      elim (or_cases (nat_lt label VARIABLES || is_read label) (nat_eq label INIT_CODE || nat_eq label PLAY_CODE) e) [
        | inl low ↦
            elim (or_cases (nat_lt label VARIABLES) (is_read label) low) [
              | inl variable ↦
                  (let low = ltb-true label VARIABLES variable in variable_always label low (below label low))
              | inr read ↦ named_behind (lines_around places variables play init) lists label (is.tables label read)
            ]
        | inr high ↦
            elim (or_cases (nat_eq label INIT_CODE) (nat_eq label PLAY_CODE) high) [
              | inl begins ↦
                  subst (λ l. IsNamedAlways (lines_around places variables play init ++ lists) l)
                  (sym (eqb-true label INIT_CODE begins)) init_always
              | inr plays ↦
                  subst (λ l. IsNamedAlways (lines_around places variables play init ++ lists) l)
                  (sym (eqb-true label PLAY_CODE plays)) play_always
            ]
      ]

  pub others_named : ((label : ℕ) → label < VARIABLES → places label < length variables) →
      NamesOthers is_known (lines_around places variables play init ++ lists)
  others_named below = record { named = λ label known. known_always below label known }
