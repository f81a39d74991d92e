-- Items that stand for others: which ones are first seen, and where they stand.
use Rattle.std.proofs.Common.{◌≡◌, ℕ, ◌+◌, ◌&&◌, Bool, true, false, not, List, [], ◌∷◌, ◌++◌, map}
use Rattle.std.proofs.Common.{All, refl, sym, ◌∙◌, ap, inl, inr}
use Rattle.std.specs.List.{filter, list_all, position_or_len, flat_map, sum_by}
use Rattle.std.proofs.lemmas.Bool.{cases_Bool}
use Rattle.std.proofs.lemmas.List.Sums.{sum_by-cons}
use Rattle.std.proofs.lemmas.List.Elements.{All-head, All-tail}
use Rattle.packing_rules.specs.Renumbering.{first_seen}
use Rattle.packing_rules.proofs.Laws.{first_seen_all}

-- ---- alike on some items

pub map_alike : {X Y : Type 0} (P : X → Type 0) (f g : X → Y) (xs : List X) → All P xs →
    ((x : X) → P x → f x ≡ g x) → map f xs ≡ map g xs
map_alike P f g [] all alike = refl
map_alike {X} {Y} P f g (x ∷ xs) all alike =
    ap (λ (y : Y). y ∷ map f xs) (alike x (All-head P x xs all))
    ∙ ap (λ (ys : List Y). g x ∷ ys) (map_alike P f g xs (All-tail P x xs all) alike)

pub flat_map_alike : {X Y : Type 0} (P : X → Type 0) (f g : X → List Y) (xs : List X) → All P xs →
    ((x : X) → P x → f x ≡ g x) → flat_map f xs ≡ flat_map g xs
flat_map_alike P f g [] all alike = refl
flat_map_alike {X} {Y} P f g (x ∷ xs) all alike =
    ap (λ (ys : List Y). ys ++ flat_map f xs) (alike x (All-head P x xs all))
    ∙ ap (λ (ys : List Y). g x ++ ys) (flat_map_alike P f g xs (All-tail P x xs all) alike)

pub sum_alike : {X : Type 0} (P : X → Type 0) (f g : X → ℕ) (xs : List X) → All P xs →
    ((x : X) → P x → f x ≡ g x) → sum_by f xs ≡ sum_by g xs
sum_alike P f g [] all alike = refl
sum_alike P f g (x ∷ xs) all alike =
    sum_by-cons f x xs
    ∙ ap (λ (n : ℕ). n + sum_by f xs) (alike x (All-head P x xs all))
    ∙ ap (λ (n : ℕ). g x + n) (sum_alike P f g xs (All-tail P x xs all) alike)
    ∙ sym (sum_by-cons g x xs)

pub all_alike : {X : Type 0} (P : X → Type 0) (f g : X → Bool) (xs : List X) → All P xs →
    ((x : X) → P x → f x ≡ g x) → list_all f xs ≡ list_all g xs
all_alike P f g [] all alike = refl
all_alike P f g (x ∷ xs) all alike =
    ap (λ (b : Bool). b && list_all f xs) (alike x (All-head P x xs all))
    ∙ ap (λ (b : Bool). g x && b) (all_alike P f g xs (All-tail P x xs all) alike)

pub sum_of_map : {X Y : Type 0} (f : Y → ℕ) (h : X → Y) (xs : List X) → sum_by f (map h xs) ≡ sum_by (λ x. f (h x)) xs
sum_of_map f h [] = refl
sum_of_map f h (x ∷ xs) =
    sum_by-cons f (h x) (map h xs)
    ∙ ap (λ (n : ℕ). f (h x) + n) (sum_of_map f h xs)
    ∙ sym (sum_by-cons (λ y. f (h y)) x xs)

pub map_of_map : {X Y Z : Type 0} (g : Y → Z) (f : X → Y) (xs : List X) → map g (map f xs) ≡ map (λ x. g (f x)) xs
map_of_map g f [] = refl
map_of_map {X} {Y} {Z} g f (x ∷ xs) = ap (λ (zs : List Z). g (f x) ∷ zs) (map_of_map g f xs)

-- ---- first seen

filter_map_alike : {X Y : Type 0} (P : X → Type 0) (f : X → Y) (p : Y → Bool) (q : X → Bool) (xs : List X) → All P xs →
    ((x : X) → P x → p (f x) ≡ q x) → filter p (map f xs) ≡ map f (filter q xs)
filter_map_alike P f p q [] all alike = refl
filter_map_alike {X} {Y} P f p q (x ∷ xs) all alike = elim (cases_Bool (q x)) [
  | inl kept ↦ (
      let same : p (f x) ≡ true = alike x (All-head P x xs all) ∙ kept in
      rw (same, kept) (ap (λ (ys : List Y). f x ∷ ys) (filter_map_alike P f p q xs (All-tail P x xs all) alike)))
  | inr dropped ↦ (
      let same : p (f x) ≡ false = alike x (All-head P x xs all) ∙ dropped in
      rw (same, dropped) (filter_map_alike P f p q xs (All-tail P x xs all) alike))
]

pub first_seen_map : {X Y : Type 0} (P : X → Type 0) (f : X → Y) (same : X → X → Bool) (same_made : Y → Y → Bool)
    (xs : List X) → All P xs → ((x y : X) → P x → P y → same_made (f x) (f y) ≡ same x y) →
    first_seen same_made (map f xs) ≡ map f (first_seen same xs)
first_seen_map P f same same_made [] all alike = refl
first_seen_map {X} {Y} P f same same_made (x ∷ xs) all alike =
    let rest = first_seen_map P f same same_made xs (All-tail P x xs all) alike in
    let kept = first_seen_all P same xs (All-tail P x xs all) in
    ap (λ (ys : List Y). f x ∷ filter (λ y. not (same_made y (f x))) ys) rest
    ∙ ap (λ (ys : List Y). f x ∷ ys)
    (filter_map_alike P f (λ y. not (same_made y (f x))) (λ y. not (same y x)) (first_seen same xs) kept
    (λ y holds. ap not (alike y x holds (All-head P x xs all))))

-- ---- places

pub place_alike : {X Y : Type 0} (P : X → Type 0) (f : X → Y) (p : Y → Bool) (q : X → Bool) (xs : List X) → All P xs →
    ((x : X) → P x → p (f x) ≡ q x) → position_or_len p (map f xs) ≡ position_or_len q xs
place_alike P f p q [] all alike = refl
place_alike P f p q (x ∷ xs) all alike = elim (cases_Bool (q x)) [
  | inl here ↦ (let same : p (f x) ≡ true = alike x (All-head P x xs all) ∙ here in rw (same, here) refl)
  | inr not_here ↦ (
      let same : p (f x) ≡ false = alike x (All-head P x xs all) ∙ not_here in
      rw (same, not_here) (ap (λ (n : ℕ). 1 + n) (place_alike P f p q xs (All-tail P x xs all) alike)))
]
