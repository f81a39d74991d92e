-- The order of refusals: what one number after the other says, and the first refusal of a part as that of a whole.
use Rattle.std.proofs.Common.{◌≡◌, ℕ, ◌<◌, ◌≤◌, ◌⊎◌, true, List, [], ◌∷◌, refl, inl, inr, arith}
use Rattle.std.specs.Ordering.{nat_cmp, is_le}
use Rattle.std.specs.Cmp.Lexicographic.{slice_cmp}
use Rattle.std.proofs.lemmas.Bool.{cases_lt}
use Rattle.std.proofs.lemmas.Bool.Decides.{nat_tests}
use Rattle.play_model.specs.declared.unplayable.Unplayable.{Unplayable}
use Rattle.play_model.specs.Playable.{rank_of, IsNotAfter, IsFirst}

-- the first list of numbers doesn't come after the second
pub record AreInOrder (xs ys : List ℕ) : Type 0 where
  pub is : is_le (slice_cmp nat_cmp xs ys) ≡ true

-- a lower number decides
pub lower : {x y : ℕ} {xs ys : List ℕ} → x < y → AreInOrder (x ∷ xs) (y ∷ ys)
lower {x} {y} h = record { is = grind (arith, nat_tests) }

-- an equal one leaves it to the next
pub same : {x y : ℕ} {xs ys : List ℕ} → y ≡ x → AreInOrder xs ys → AreInOrder (x ∷ xs) (y ∷ ys)
same {x} {y} {xs} {ys} e h = record { is = grind (arith, nat_tests) }

pub at_most : {x y : ℕ} {xs ys : List ℕ} → x ≤ y → AreInOrder xs ys → AreInOrder (x ∷ xs) (y ∷ ys)
at_most {x} {y} {xs} {ys} h rest = elim (cases_lt x y) [
  | inl less ↦ lower less
  | inr more ↦ (let e : y ≡ x = omega arith in same e rest)
]

pub nothing_left : AreInOrder [] []
nothing_left = record { is = refl }

pub ordered : (refusal other : Unplayable) (xs ys : List ℕ) → rank_of refusal ≡ xs → rank_of other ≡ ys →
    AreInOrder xs ys → IsNotAfter refusal other
ordered refusal other xs ys a b o = rw (a, b) o.is

-- what is first among some is first among more, where none of the others comes before it
pub first_of : {P : Unplayable → Type 0} (Q : Unplayable → Type 0) (refusal : Unplayable) → IsFirst P refusal →
    Q refusal →
    ((other : Unplayable) → Q other → P other ⊎ IsNotAfter refusal other) → IsFirst Q refusal
first_of {P} Q refusal first such others = record {
  is_such = such;
  first = λ other q. (let w = others other q in elim w [ inl p ↦ first.first other p | inr after ↦ after ]);
}
