-- Where a number was found among others, and its place there.
use Rattle.std.proofs.Common.{◌≡◌, ℕ, ◌+◌, Bool, true, false, List, length, Some, None, refl, sym}
use Rattle.std.proofs.Common.{◌∙◌, ap, inl, inr}
use Rattle.std.specs.Prelude.{nat_eq, if◌then◌else◌}
use Rattle.std.specs.List.{list_any, position, position_or_len}
use Rattle.std.proofs.lemmas.Bool.{cases_Bool, cases_lt, lt-ltb, le-ltb}
use Rattle.std.proofs.lemmas.List.Folds.{list_any_at}
use Rattle.std.proofs.lemmas.List.Sums.{passes_at_first}
use Rattle.packing_rules.specs.Renumbering.{place_in}
use Rattle.packing_rules.proofs.Laws.{place_there}

found_place : (items : List ℕ) (n : ℕ) (b : Bool) → list_any (nat_eq n) items ≡ b →
    position (nat_eq n) items ≡ (if b then Some (position_or_len (nat_eq n) items) else None)
found_place items n true has =
    let inside = lt-ltb (position_or_len (nat_eq n) items) (length items) (place_there (nat_eq n) items has) in
    rw inside refl
found_place items n false none = elim (cases_lt (position_or_len (nat_eq n) items) (length items)) [
  | inl less ↦ absurd (
      let has = list_any_at (nat_eq n) items (position_or_len (nat_eq n) items) 0 less
      (passes_at_first (nat_eq n) items 0 less) in
      let e : false ≡ true = sym none ∙ has in
      cc)
  | inr most ↦ (let past = le-ltb (position_or_len (nat_eq n) items) (length items) most in rw past refl)
]

pub some_place : (items : List ℕ) (n place : ℕ) → Some place ≡ position (nat_eq n) items → place + 1 ≡ place_in items n
some_place items n place is = elim (cases_Bool (list_any (nat_eq n) items)) [
  | inl has ↦ (
      let e : Some place ≡ Some (position_or_len (nat_eq n) items) = is ∙ found_place items n true has in
      let same : place ≡ position_or_len (nat_eq n) items = cc in
      rw has (ap (λ (k : ℕ). k + 1) same))
  | inr none ↦ absurd (let e = is ∙ found_place items n false none in cc)
]

pub no_place : (items : List ℕ) (n : ℕ) → None ≡ position (nat_eq n) items → 0 ≡ place_in items n
no_place items n is = elim (cases_Bool (list_any (nat_eq n) items)) [
  | inl has ↦ absurd (
      let e = is ∙ found_place items n true has in cc)
  | inr none ↦ rw none refl
]
