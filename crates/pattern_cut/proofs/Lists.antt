-- Lists of lists: what stands in them, and where each item is as it must be.
use Rattle.std.proofs.Common.{◌≡◌, ℕ, zero, suc, ◌<◌, Bool, true, List, [], ◌∷◌, ◌++◌, map, All}
use Rattle.std.proofs.Common.{Contains, refl, sym, ap, ◌∙◌, arith, inl, inr, subst}
use Rattle.std.specs.List.{flat_map, filter, range_with_len}
use Rattle.std.proofs.lemmas.List.FromFn.{length-range_with_len, get_or-range_with_len}
use Rattle.std.proofs.lemmas.List.Elements.{All-head, All-tail, Contains-append_left, Contains-append_right}
use Rattle.std.proofs.lemmas.List.Elements.{Contains-append_cases, All-contains_itself, All-weaker, All-append}

-- an item of what an item becomes
pub within : {X Y : Type 0} (f : X → List Y) (xs : List X) (x : X) (y : Y) → Contains xs x → Contains (f x) y →
    Contains (flat_map f xs) y
within f [] x y (k, inside, is) has = absurd (omega arith)
within f (x' ∷ xs) x y (zero, inside, is) has =
    Contains-append_left (f x') (flat_map f xs) y (subst (λ z. Contains (f z) y) (sym is) has)
within f (x' ∷ xs) x y (suc k, inside, is) has =
    Contains-append_right (f x') (flat_map f xs) y (within f xs x y (k, omega arith, is) has)

-- and the item that it comes from
pub record ComesFrom {X Y : Type 0} (f : X → List Y) (xs : List X) (y : Y) : Type 0 where
  pub item : X
  pub there : Contains xs item
  pub has : Contains (f item) y

pub comes_from : {X Y : Type 0} (f : X → List Y) (xs : List X) (y : Y) → Contains (flat_map f xs) y → ComesFrom f xs y
comes_from f [] y (k, inside, is) = absurd (omega arith)
comes_from {X} {Y} f (x ∷ xs) y has = elim (Contains-append_cases (f x) (flat_map f xs) y has) [
  | inl first ↦ record { item = x; there = (0, omega arith, refl); has = first }
  | inr later ↦
      let from = comes_from f xs y later in
      record { item = from.item; there = Contains-append_right (x ∷ []) xs from.item from.there; has = from.has }
]

-- the item of which a function makes this one
pub record OfMap {X Y : Type 0} (f : X → Y) (xs : List X) (y : Y) : Type 0 where
  pub item : X
  pub there : Contains xs item
  pub is : f item ≡ y

pub of_map : {X Y : Type 0} (f : X → Y) (xs : List X) (y : Y) → Contains (map f xs) y → OfMap f xs y
of_map f [] y (k, inside, is) = absurd (omega arith)
of_map f (x ∷ xs) y (zero, inside, is) = record { item = x; there = (0, omega arith, refl); is = is }
of_map f (x ∷ xs) y (suc k, inside, is) =
    let later = of_map f xs y (k, omega arith, is) in
    record { item = later.item; there = Contains-append_right (x ∷ []) xs later.item later.there; is = later.is }

-- two functions that give the same for each item
pub flat_map_same : {X Y : Type 0} (f g : X → List Y) (xs : List X) → All (λ x. f x ≡ g x) xs → flat_map f xs ≡ flat_map g xs
flat_map_same f g [] all = refl
flat_map_same {X} {Y} f g (x ∷ xs) all =
    ap (λ (ys : List Y). ys ++ flat_map f xs) (All-head (λ x. f x ≡ g x) x xs all)
    ∙ ap (λ (ys : List Y). g x ++ ys) (flat_map_same f g xs (All-tail (λ x. f x ≡ g x) x xs all))

-- a filter that all items pass
pub filter_all : {X : Type 0} (p : X → Bool) (xs : List X) → All (λ x. p x ≡ true) xs → filter p xs ≡ xs
filter_all p [] all = refl
filter_all {X} p (x ∷ xs) all =
    rw (All-head (λ x. p x ≡ true) x xs all)
    (ap (λ (ys : List X). x ∷ ys) (filter_all p xs (All-tail (λ x. p x ≡ true) x xs all)))

pub All-flat_map : {X Y : Type 0} (P : Y → Type 0) (f : X → List Y) (xs : List X) → All (λ x. All P (f x)) xs →
    All P (flat_map f xs)
All-flat_map P f [] all = λ k d low. absurd (omega arith)
All-flat_map P f (x ∷ xs) all =
    All-append P (f x) (flat_map f xs) (All-head (λ x. All P (f x)) x xs all)
    (All-flat_map P f xs (All-tail (λ x. All P (f x)) x xs all))

-- each item of a list is as items that it contains are
pub each_item : {X : Type 0} (P : X → Type 0) (xs : List X) → ((x : X) → Contains xs x → P x) → All P xs
each_item {X} P xs each = All-weaker (Contains xs) P each xs (All-contains_itself xs)

-- ---- numbers

-- the first numbers
pub in_range : (n i : ℕ) → i < n → Contains (range_with_len 0 n) i
in_range n i low = (
  i,
  subst (λ (k : ℕ). i < k) (sym (length-range_with_len 0 n)) low,
  get_or-range_with_len 0 n i i low ∙ omega arith,
)

pub below : (n i : ℕ) → Contains (range_with_len 0 n) i → i < n
below n i (k, inside, is) =
    let low : k < n = subst (λ (m : ℕ). k < m) (length-range_with_len 0 n) inside in
    let at = get_or-range_with_len 0 n k i low in
    omega (arith, at, is)

-- an item of a list of one
pub only : {X : Type 0} (x y : X) → Contains (x ∷ []) y → x ≡ y
only x y (zero, inside, is) = is
only x y (suc k, inside, is) = absurd (omega arith)
