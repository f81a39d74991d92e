-- Choices by tests that come out alike.
use Rattle.std.specs.Prelude.{◌==◌}
use Rattle.std.proofs.Common.{◌≡◌, ◌≢◌, ℕ, Bool, true, false, cond, refl, sym, ◌∙◌, inl, inr}
use Rattle.std.proofs.lemmas.Bool.{cases_eq, eq-eqb, ne_eqb}

-- where the tests come out alike, and each side is a function of the side beside it, so is what is chosen
pub choice_moved : {X Y : Type 0} (f : X → Y) (z w : Bool) (x y : X) (a b : Y) → w ≡ z → (z ≡ true → a ≡ f x) →
    (z ≡ false → b ≡ f y) → cond w a b ≡ f (cond z x y)
choice_moved f true w x y a b e first second = rw e (first refl)
choice_moved f false w x y a b e first second = rw e (second refl)

-- the same test
pub same_choice : {X Y : Type 0} (f : X → Y) (z : Bool) (x y : X) (a b : Y) → (z ≡ true → a ≡ f x) →
    (z ≡ false → b ≡ f y) → cond z a b ≡ f (cond z x y)
same_choice f z x y a b first second = choice_moved f z z x y a b refl first second

-- where the tests come out alike, and each side is related to the side beside it, so is what is chosen
pub choice_related : {X Y : Type 0} (R : X → Y → Type 0) (z w : Bool) (x y : X) (a b : Y) → w ≡ z →
    (z ≡ true → R x a) → (z ≡ false → R y b) → R (cond z x y) (cond w a b)
choice_related R true w x y a b e first second = rw e (first refl)
choice_related R false w x y a b e first second = rw e (second refl)

-- the same test
pub both : {X Y : Type 0} (R : X → Y → Type 0) (z : Bool) (x y : X) (a b : Y) → (z ≡ true → R x a) →
    (z ≡ false → R y b) → R (cond z x y) (cond z a b)
both R z x y a b first second = choice_related R z z x y a b refl first second

-- two numbers of which both or neither are 0
pub zero_tests : (p q : ℕ) → (p ≡ 0 → q ≡ 0) → (p ≢ 0 → q ≢ 0) → (q == 0) ≡ (p == 0)
zero_tests p q none some = elim (cases_eq p 0) [
  | inl e ↦ eq-eqb q 0 (none e) ∙ sym (eq-eqb p 0 e)
  | inr n ↦ ne_eqb q 0 (some n) ∙ sym (ne_eqb p 0 n)
]
