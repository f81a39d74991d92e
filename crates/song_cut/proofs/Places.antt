-- Where a number stands first among others.
use Rattle.std.proofs.Common.{◌≡◌, ℕ, ◌≤◌, Bool, true, false, List, [], ◌∷◌, length, Some, None, refl}
use Rattle.std.proofs.Common.{inl, inr, arith}
use Rattle.std.specs.List.{list_any, position, position_or_len}
use Rattle.std.proofs.lemmas.Bool.{cases_lt, lt-ltb, le-ltb}

pub within : {X : Type 0} (p : X → Bool) (xs : List X) → position_or_len p xs ≤ length xs
within p [] = omega arith
within p (x ∷ xs) = by_test (p x) refl (within p xs)
  where
    by_test : (b : Bool) → p x ≡ b → position_or_len p xs ≤ length xs → position_or_len p (x ∷ xs) ≤ length (x ∷ xs)
    by_test true e rest = rw e (omega arith)
    by_test false e rest = rw e (omega arith)

pub some_place : {X : Type 0} (p : X → Bool) (xs : List X) (place : ℕ) → Some place ≡ position p xs →
    place ≡ position_or_len p xs
some_place p xs place is = elim (cases_lt (position_or_len p xs) (length xs)) [
  | inl less ↦ (
      let e : Some place ≡ Some (position_or_len p xs) = rw (lt-ltb (position_or_len p xs) (length xs) less) at is in
      cc)
  | inr most ↦ absurd (let e : Some place ≡ None = rw (le-ltb (position_or_len p xs) (length xs) most) at is in cc)
]

pub no_place : {X : Type 0} (p : X → Bool) (xs : List X) → None ≡ position p xs → length xs ≡ position_or_len p xs
no_place p xs is = elim (cases_lt (position_or_len p xs) (length xs)) [
  | inl less ↦ absurd (
      let e : None ≡ Some (position_or_len p xs) = rw (lt-ltb (position_or_len p xs) (length xs) less) at is in
      cc)
  | inr most ↦ (let low = within p xs in omega arith)
]

pub place_past : {X : Type 0} (p : X → Bool) (xs : List X) → list_any p xs ≡ false → position_or_len p xs ≡ length xs
place_past p [] none = refl
place_past p (x ∷ xs) none = by_test (p x) refl (place_past p xs)
  where
    by_test : (b : Bool) → p x ≡ b → (list_any p xs ≡ false → position_or_len p xs ≡ length xs) →
        position_or_len p (x ∷ xs) ≡ length (x ∷ xs)
    by_test true e rest = absurd (let h : true ≡ false = rw e at none in cc)
    by_test false e rest =
        let h : list_any p xs ≡ false = rw e at none in
        let all = rest h in
        rw e (omega arith)
