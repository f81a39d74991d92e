-- The order of places by their numbers.
use Rattle.std.proofs.Common.{◌≡◌, ℕ, ◌<◌, true, List, [], ◌∷◌, ◌++◌, refl, sym, inl, inr, arith}
use Rattle.std.specs.Ordering.{nat_cmp, is_le}
use Rattle.std.specs.Cmp.Lexicographic.{slice_cmp}
use Rattle.std.proofs.lemmas.Bool.{cases_order}
use Rattle.std.proofs.lemmas.Bool.Decides.{nat_tests}

-- the first list of numbers doesn't come after the second
pub record AreInOrder (xs ys : List ℕ) : Type 0 where
  pub is : is_le (slice_cmp nat_cmp xs ys) ≡ true

same_first : (x : ℕ) (xs ys : List ℕ) → AreInOrder xs ys → AreInOrder (x ∷ xs) (x ∷ ys)
same_first x xs ys o = record { is = (let h = o.is in grind (arith, nat_tests)) }

-- behind the same front a lower number decides
pub lower : (front : List ℕ) (x y : ℕ) (xs ys : List ℕ) → x < y →
    AreInOrder (front ++ x ∷ xs) (front ++ y ∷ ys)
lower [] x y xs ys lt = record { is = grind (arith, nat_tests) }
lower (n ∷ front) x y xs ys lt = same_first n (front ++ x ∷ xs) (front ++ y ∷ ys) (lower front x y xs ys lt)

-- a list comes before those that it begins
pub begun : (xs rest : List ℕ) → AreInOrder xs (xs ++ rest)
begun [] [] = record { is = refl }
begun [] (y ∷ rest) = record { is = refl }
begun (x ∷ xs) rest = same_first x xs (xs ++ rest) (begun xs rest)

greater_first : (x y : ℕ) (xs ys : List ℕ) → y < x → is_le (slice_cmp nat_cmp (x ∷ xs) (y ∷ ys)) ≡ true → ⊥
greater_first x y xs ys lt h = grind (arith, nat_tests)

equal_first : (x y : ℕ) (xs ys : List ℕ) → x ≡ y → is_le (slice_cmp nat_cmp (x ∷ xs) (y ∷ ys)) ≡ true →
    is_le (slice_cmp nat_cmp xs ys) ≡ true
equal_first x y xs ys e h = grind (arith, nat_tests)

pub same_ranks : (xs ys : List ℕ) → is_le (slice_cmp nat_cmp xs ys) ≡ true →
    is_le (slice_cmp nat_cmp ys xs) ≡ true → xs ≡ ys
same_ranks [] [] a b = refl
same_ranks [] (y ∷ ys) a b = absurd (cc)
same_ranks (x ∷ xs) [] a b = absurd (cc)
same_ranks (x ∷ xs) (y ∷ ys) a b = elim (cases_order x y) [
  | inl e ↦ (let rest = same_ranks xs ys (equal_first x y xs ys e a) (equal_first y x ys xs (sym e) b) in cc)
  | inr other ↦ elim other [
    | inl lt ↦ absurd (greater_first y x ys xs lt b)
    | inr gt ↦ absurd (greater_first x y xs ys gt a)
  ]
]
