-- Where an item stands among others, and among those with no equal one before them.
use Rattle.std.proofs.Common.{◌≡◌, ℕ, zero, suc, ◌+◌, ◌<◌, ◌≤◌, Bool, true, false, not, ◌||◌}
use Rattle.std.proofs.Common.{List, [], ◌∷◌, ◌++◌, map, length, All, Contains, refl, sym, ◌∙◌, ap}
use Rattle.std.proofs.Common.{subst, arith}
use Rattle.std.specs.List.{filter, list_any, position_or_len}
use Rattle.std.proofs.Math.Bool.{not-not}
use Rattle.std.proofs.lemmas.List.{length-append}
use Rattle.std.proofs.lemmas.List.Elements.{All-head, All-tail, All-cons, All-filter}
use Rattle.std.proofs.lemmas.List.Filters.{length-filter_both}
use Rattle.packing_rules.specs.Renumbering.{first_seen}
use Rattle.packing_rules.proofs.FirstSeen.{with_new, any_filter}

-- ---- places

-- a place that is found stays where items are added
pub place_stays : {X : Type 0} (p : X → Bool) (xs ys : List X) → position_or_len p xs < length xs →
    position_or_len p (xs ++ ys) ≡ position_or_len p xs
place_stays p [] ys found = absurd (omega arith)
place_stays p (x ∷ xs) ys found = by_test (p x) refl (place_stays p xs ys)
  where
    by_test : (b : Bool) → p x ≡ b →
        (position_or_len p xs < length xs → position_or_len p (xs ++ ys) ≡ position_or_len p xs) →
        position_or_len p (x ∷ (xs ++ ys)) ≡ position_or_len p (x ∷ xs)
    by_test true e rest = rw e refl
    by_test false e rest =
        let f : 1 + position_or_len p xs < suc (length xs) = rw e at found in
        rw e (ap (λ (k : ℕ). 1 + k) (rest (omega arith)))

-- an item that is there has a place
pub place_there : {X : Type 0} (p : X → Bool) (xs : List X) → list_any p xs ≡ true → position_or_len p xs < length xs
place_there p [] there = absurd cc
place_there p (x ∷ xs) there = by_test (p x) refl (place_there p xs)
  where
    by_test : (b : Bool) → p x ≡ b → (list_any p xs ≡ true → position_or_len p xs < length xs) →
        position_or_len p (x ∷ xs) < length (x ∷ xs)
    by_test true e rest = rw e (omega arith)
    by_test false e rest =
        let h : list_any p xs ≡ true = rw e at there in
        let low = rest h in
        rw e (omega arith)

pub place_none : {X : Type 0} (p : X → Bool) (xs : List X) → list_any p xs ≡ false → position_or_len p xs ≡ length xs
place_none p [] none = refl
place_none p (x ∷ xs) none = by_test (p x) refl (place_none p xs)
  where
    by_test : (b : Bool) → p x ≡ b → (list_any p xs ≡ false → position_or_len p xs ≡ length xs) →
        position_or_len p (x ∷ xs) ≡ length (x ∷ xs)
    by_test true e rest = absurd (let h : true ≡ false = rw e at none in cc)
    by_test false e rest =
        let h : list_any p xs ≡ false = rw e at none in
        let all = rest h in
        rw e (omega arith)

pub place_last : {X : Type 0} (p : X → Bool) (xs : List X) (y : X) → list_any p xs ≡ false → p y ≡ true →
    position_or_len p (xs ++ y ∷ []) ≡ length xs
place_last p [] y none is = rw is refl
place_last p (x ∷ xs) y none is = by_test (p x) refl (place_last p xs y)
  where
    by_test : (b : Bool) → p x ≡ b →
        (list_any p xs ≡ false → p y ≡ true → position_or_len p (xs ++ y ∷ []) ≡ length xs) →
        position_or_len p (x ∷ (xs ++ y ∷ [])) ≡ length (x ∷ xs)
    by_test true e rest = absurd (let h : true ≡ false = rw e at none in cc)
    by_test false e rest =
        let h : list_any p xs ≡ false = rw e at none in
        let all = rest h is in
        rw e (omega arith)

-- the place of what a function makes of an item, among what it makes of the items
pub place_of_map : {X Y : Type 0} (f : X → Y) (p : Y → Bool) (test : X → Bool) (xs : List X) →
    ((x : X) → p (f x) ≡ test x) → position_or_len p (map f xs) ≡ position_or_len test xs
place_of_map f p test [] same = refl
place_of_map {X} f p test (x ∷ xs) same = by_test (test x) refl (place_of_map f p test xs same)
  where
    by_test : (b : Bool) → test x ≡ b → position_or_len p (map f xs) ≡ position_or_len test xs →
        position_or_len p (map f (x ∷ xs)) ≡ position_or_len test (x ∷ xs)
    by_test true e rest = let h = same x ∙ e in rw (e, h) refl
    by_test false e rest = let h = same x ∙ e in rw (e, h) (ap (λ (k : ℕ). 1 + k) rest)

pub any_of_map : {X Y : Type 0} (f : X → Y) (p : Y → Bool) (test : X → Bool) (xs : List X) →
    ((x : X) → p (f x) ≡ test x) → list_any p (map f xs) ≡ list_any test xs
any_of_map f p test [] same = refl
any_of_map f p test (x ∷ xs) same =
    ap (λ (b : Bool). b || list_any p (map f xs)) (same x)
    ∙ ap (λ (b : Bool). test x || b) (any_of_map f p test xs same)

-- ---- one item more

-- the place of an item among items with it
pub new_place : {X : Type 0} (same : X → X → Bool) → ((x : X) → same x x ≡ true) → (xs : List X) (y : X) →
    (position_or_len (same y) (with_new same xs y) ≡ position_or_len (same y) xs)
    × (position_or_len (same y) (with_new same xs y) < length (with_new same xs y))
new_place same itself xs y = by_any (list_any (same y) xs) refl
  where
    by_any : (b : Bool) → list_any (same y) xs ≡ b →
        (position_or_len (same y) (with_new same xs y) ≡ position_or_len (same y) xs)
        × (position_or_len (same y) (with_new same xs y) < length (with_new same xs y))
    by_any true e = rw e (refl, place_there (same y) xs e)
    by_any false e =
        let last = place_last (same y) xs y e (itself y) in
        let none = place_none (same y) xs e in
        let count = length-append xs (y ∷ []) in
        rw e (last ∙ sym none, rw (last, count) (omega arith))

-- the place of another item
pub old_place : {X : Type 0} (same : X → X → Bool) (p : X → Bool) (xs : List X) (y : X) →
    position_or_len p xs < length xs →
    (position_or_len p (with_new same xs y) ≡ position_or_len p xs)
    × (position_or_len p (with_new same xs y) < length (with_new same xs y))
old_place same p xs y found = by_any (list_any (same y) xs) refl
  where
    by_any : (b : Bool) → list_any (same y) xs ≡ b →
        (position_or_len p (with_new same xs y) ≡ position_or_len p xs)
        × (position_or_len p (with_new same xs y) < length (with_new same xs y))
    by_any true e = rw e (refl, found)
    by_any false e =
        let stays = place_stays p xs (y ∷ []) found in
        let count = length-append xs (y ∷ []) in
        rw e (stays, rw (stays, count) (omega arith))

pub with_new_length : {X : Type 0} (same : X → X → Bool) (xs : List X) (y : X) →
    length (with_new same xs y) ≤ length xs + 1
with_new_length same xs y = by_any (list_any (same y) xs) refl
  where
    by_any : (b : Bool) → list_any (same y) xs ≡ b → length (with_new same xs y) ≤ length xs + 1
    by_any true e = rw e (omega arith)
    by_any false e = let count = length-append xs (y ∷ []) in rw (e, count) (omega arith)

-- ---- items with no equal one before them

-- an equal one of each item is there
pub first_seen_has : {X : Type 0} (same : X → X → Bool) → ((x y : X) → same x y ≡ true → x ≡ y) →
    ((x : X) → same x x ≡ true) → (xs : List X) (y : X) → Contains xs y → list_any (same y) (first_seen same xs) ≡ true
first_seen_has same is_same itself [] y (k, inside, is) = absurd (omega arith)
first_seen_has {X} same is_same itself (x ∷ xs) y (zero, inside, is) =
    let e : same y x ≡ true = subst (λ (z : X). same y z ≡ true) (sym is) (itself y) in
    rw e refl
first_seen_has {X} same is_same itself (x ∷ xs) y (suc k, inside, is) =
    let later = first_seen_has same is_same itself xs y (k, omega arith, is) in
    by_head (same y x) refl later
  where
    by_head : (b : Bool) → same y x ≡ b → list_any (same y) (first_seen same xs) ≡ true →
        list_any (same y) (first_seen same (x ∷ xs)) ≡ true
    by_head true e later = rw e refl
    by_head false e later =
        rw e (any_filter (same y) (λ z. not (same z x)) (first_seen same xs)
        (λ z is. ap (λ (t : X). not (same t x)) (sym (is_same y z is)) ∙ ap not e) ∙ later)

pub first_seen_length : {X : Type 0} (same : X → X → Bool) (xs : List X) → length (first_seen same xs) ≤ length xs
first_seen_length same [] = omega arith
first_seen_length same (x ∷ xs) =
    let rest = first_seen_length same xs in
    let kept = length-filter_both (λ z. not (same z x)) (λ z. same z x) (λ z. sym (not-not (same z x))) (first_seen same xs) in
    omega arith

-- they are items of the list
pub first_seen_all : {X : Type 0} (P : X → Type 0) (same : X → X → Bool) (xs : List X) → All P xs → All P (first_seen same xs)
first_seen_all P same [] all = all
first_seen_all P same (x ∷ xs) all =
    All-cons P x (filter (λ y. not (same y x)) (first_seen same xs)) (All-head P x xs all)
    (All-filter (λ y. not (same y x)) P (first_seen same xs) (first_seen_all P same xs (All-tail P x xs all)))
