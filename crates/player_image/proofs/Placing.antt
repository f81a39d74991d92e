-- The bytes of variables in the order of their places: at the place of a label that has a byte stands its own.
use Rattle.std.proofs.Common.{◌≡◌, ◌≢◌, ℕ, zero, suc, ◌+◌, ◌<◌, ◌≤◌, Bool, true, false, nat_eq, List}
use Rattle.std.proofs.Common.{slice_index, Option, Some, inl, inr, refl, sym, ap, ◌∙◌, arith}
use Rattle.std.specs.List.{find, range_with_len}
use Rattle.std.proofs.lemmas.List.FromFn.{get_or-map-range_with_len}
use Rattle.std.proofs.lemmas.Bool.{eqb-true, both_ways, eq-eqb, cases_lt}
use Rattle.player_memory.specs.declared.labels.TheConstants.{VARIABLES}
use Rattle.variable_places.specs.Places.{has_byte, place_of, variable_count}
use Rattle.variable_places.proofs.Laws.{places_are_within, places_are_apart, uncleared_are_first}
use Rattle.player_image.specs.Images.{byte_of, label_at, placed}

pub placed_at : (places : ℕ → ℕ) (count : ℕ) (variables : List ℕ) (place : ℕ) → place < count →
    slice_index (placed places count variables) place ≡ byte_of variables (label_at places place)
unfolding placed
placed_at places count variables place few =
    get_or-map-range_with_len (λ its. byte_of variables (label_at places its)) 0 count place place 0 few (omega arith)

-- ---- the first label of a place

-- none of the labels from one on has it but this
abbrev Alone : (ℕ → ℕ) → ℕ → ℕ → ℕ → Type 0
Alone places first count label =
    (other : ℕ) → first ≤ other → other < label → places other ≢ places label

alone_found : (places : ℕ → ℕ) (first count label : ℕ) → first ≤ label → label < first + count →
    Alone places first count label →
    find (λ its. nat_eq (places its) (places label)) (range_with_len first count) ≡ Some label
alone_found places first zero label from to alone = absurd (omega (arith, from, to))
alone_found places first (suc count) label from to alone =
    by_case (nat_eq (places first) (places label)) refl
    (λ less.
    alone_found places (first + 1) count label (omega (arith, less)) (omega (arith, to))
    (λ other its lower. alone other (omega (arith, its)) lower))
  where
    by_case : (z : Bool) → nat_eq (places first) (places label) ≡ z →
        (first < label →
        find (λ its. nat_eq (places its) (places label)) (range_with_len (first + 1) count) ≡ Some label) →
        find (λ its. nat_eq (places its) (places label)) (range_with_len first (suc count)) ≡ Some label
    by_case true e later =
        elim (cases_lt first label) [
          | inl less ↦ absurd (alone first (omega arith) less (eqb-true (places first) (places label) e))
          | inr more ↦
              let is : first ≡ label = omega (arith, from, more) in
              rw e (ap (λ (n : ℕ). let its : Option ℕ = Some n in its) is)
        ]
    by_case false e later =
        elim (cases_lt first label) [
          | inl less ↦ rw e (later less)
          | inr more ↦
              let is : first ≡ label = omega (arith, from, more) in
              let same : nat_eq (places first) (places label) ≡ true =
              eq-eqb (places first) (places label) (ap places is) in
              absurd (both_ways (nat_eq (places first) (places label)) e same)
        ]

no_place : (holds : ℕ → Bool) (label : ℕ) → has_byte holds label ≡ false → place_of holds label ≡ 0
unfolding place_of
no_place holds label none = rw none refl

module _ (holds : ℕ → Bool) where
  -- a label without a byte is at the first place, where the first label stands in front of it
  lower_is_apart : (label other : ℕ) → label < VARIABLES → has_byte holds label ≡ true → other < label →
      place_of holds other ≢ place_of holds label
  lower_is_apart label other few has lower same = by_case (has_byte holds other) refl
    where
      by_case : (z : Bool) → has_byte holds other ≡ z → ⊥
      by_case true its =
          let is = places_are_apart holds other label (omega (arith, few, lower)) few its has same in
          omega (arith, is, lower)
      by_case false none =
          let zero_is : place_of holds other ≡ 0 = no_place holds other none in
          let first = uncleared_are_first holds 0 (omega arith) in
          let is = places_are_apart holds 0 label (omega arith) few first.0 has (first.1 ∙ sym zero_is ∙ same) in
          omega (arith, is, lower)

  -- so its own byte stands at its place
  pub own_byte_at : (variables : List ℕ) (label : ℕ) → label < VARIABLES → has_byte holds label ≡ true →
      slice_index (placed (place_of holds) (variable_count holds) variables) (place_of holds label)
      ≡ slice_index variables label
  own_byte_at variables label few has =
      placed_at (place_of holds) (variable_count holds) variables (place_of holds label)
      (places_are_within holds label few)
      ∙ ap (byte_of variables)
      (alone_found (place_of holds) 0 VARIABLES label (omega arith) (omega (arith, few))
      (λ other from lower. lower_is_apart label other few has lower))
