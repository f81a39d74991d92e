-- The first bad place is one place, and there is none where each item is as it must be.
use Rattle.std.proofs.Common.{◌≡◌, ℕ, ◌<◌, List, All, inl, inr}
use Rattle.std.proofs.lemmas.Bool.{cases_order}
use Rattle.base.specs.FirstBad.{IsFirstBad}

pub none_bad : {X : Type 0} (P : X → Type 0) (xs : List X) (d : X) (i : ℕ) → All P xs → IsFirstBad P xs i → ⊥
none_bad P xs d i all bad = bad.bad d (all i d bad.inside)

not_earlier : {X : Type 0} (P : X → Type 0) (xs : List X) (d : X) (i j : ℕ) → IsFirstBad P xs i → IsFirstBad P xs j →
    i < j → ⊥
not_earlier P xs d i j a b lt = a.bad d (b.before i d lt)

pub same_first_bad : {X : Type 0} (P : X → Type 0) (xs : List X) (d : X) (i j : ℕ) → IsFirstBad P xs i →
    IsFirstBad P xs j → i ≡ j
same_first_bad P xs d i j a b =
    elim (cases_order i j) [
      | inl same ↦ same
      | inr other ↦ elim other [
        | inl lt ↦ absurd (not_earlier P xs d i j a b lt)
        | inr gt ↦ absurd (not_earlier P xs d j i b a gt)
      ]
    ]
