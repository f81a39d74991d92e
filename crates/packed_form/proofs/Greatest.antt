-- The greatest number that an item of a list has.
use Rattle.std.proofs.Common.{◌≡◌, ℕ, zero, suc, ◌<◌, ◌≤◌, max, List, [], ◌∷◌, length, get_or}
use Rattle.std.proofs.Common.{subst, arith}
use Rattle.std.specs.List.{fold, All, Contains}
use Rattle.std.proofs.lemmas.List.Elements.{All-head, All-tail}
use Rattle.packed_form.specs.WalkCount.{greatest}

-- behind a number that is the greatest so far
greatest_behind : {X : Type 0} (f : X → ℕ) (m : ℕ) (xs : List X) →
    fold (λ most x. max most (f x)) m xs ≡ max m (greatest f xs)
greatest_behind f m [] = omega arith
greatest_behind f m (x ∷ xs) =
    let here = greatest_behind f (max m (f x)) xs in
    let alone = greatest_behind f (max 0 (f x)) xs in
    omega arith

pub greatest_cons : {X : Type 0} (f : X → ℕ) (x : X) (xs : List X) → greatest f (x ∷ xs) ≡ max (f x) (greatest f xs)
greatest_cons f x xs = let from = greatest_behind f (max 0 (f x)) xs in omega arith

-- it is at least each
pub greatest_at : {X : Type 0} (f : X → ℕ) (xs : List X) (k : ℕ) (d : X) → k < length xs →
    f (get_or xs k d) ≤ greatest f xs
greatest_at f [] k d inside = absurd (omega arith)
greatest_at f (x ∷ xs) zero d inside = let is = greatest_cons f x xs in omega arith
greatest_at f (x ∷ xs) (suc k) d inside =
    let is = greatest_cons f x xs in
    let there = greatest_at f xs k d (omega arith) in
    omega arith

pub greatest_has : {X : Type 0} (f : X → ℕ) (xs : List X) (x : X) → Contains xs x → f x ≤ greatest f xs
greatest_has f xs x (k, inside, e) = subst (λ (y : _). f y ≤ greatest f xs) e (greatest_at f xs k x inside)

-- and within what each is within
pub greatest_within : {X : Type 0} (f : X → ℕ) (m : ℕ) (xs : List X) → All (λ x. f x ≤ m) xs → greatest f xs ≤ m
greatest_within f m [] each = omega arith
greatest_within f m (x ∷ xs) each =
    let is = greatest_cons f x xs in
    let here = All-head (λ y. f y ≤ m) x xs each in
    let others = greatest_within f m xs (All-tail (λ y. f y ≤ m) x xs each) in
    omega arith
