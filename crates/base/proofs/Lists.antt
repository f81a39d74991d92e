-- Lists: their parts, their ends, and what stands in them.
use Rattle.std.proofs.Common.{◌≡◌, ℕ, zero, suc, ◌+◌, ◌-◌, ◌*◌, ◌<◌, ◌≤◌, List, []}
use Rattle.std.proofs.Common.{◌∷◌, ◌++◌, length, get_or, set, drop, replicate, All, ◌⊎◌, refl, sym, ap}
use Rattle.std.proofs.Common.{◌∙◌, inl, inr, arith, append_assoc, length-append}
use Rattle.std.specs.List.{flat_map}
use Rattle.std.proofs.lemmas.Bool.{cases_lt}
use Rattle.std.proofs.lemmas.List.{get_or_past, get_or_append_left, drop_all, drop_at, drop-drop, drop-replicate}
use Rattle.std.proofs.lemmas.List.{set-append_right}
use Rattle.std.proofs.lemmas.List.Elements.{All-head, All-tail, All-get_or}

-- ---- parts

-- the parts of two equal lists
pub same_head : {X : Type 0} (x y : X) (xs ys : List X) → x ∷ xs ≡ y ∷ ys → x ≡ y
same_head x y xs ys e = cc

pub same_tail : {X : Type 0} (x y : X) (xs ys : List X) → x ∷ xs ≡ y ∷ ys → xs ≡ ys
same_tail x y xs ys e = cc

pub nil_is_no_append : {X : Type 0} (front : List X) (x : X) (back : List X) → [] ≡ front ++ x ∷ back → ⊥
nil_is_no_append [] x back e = absurd (cc)
nil_is_no_append (y ∷ front) x back e = absurd (cc)

-- lists of one length in front of others
pub split_append : {X : Type 0} (xs ys u v : List X) → length xs ≡ length ys → xs ++ u ≡ ys ++ v → (xs ≡ ys) × (u ≡ v)
split_append [] [] u v n e = (refl, e)
split_append [] (y ∷ ys) u v n e = absurd (omega arith)
split_append (x ∷ xs) [] u v n e = absurd (omega arith)
split_append (x ∷ xs) (y ∷ ys) u v n e =
    let head : x ≡ y = (cc) in
    let tail : xs ++ u ≡ ys ++ v = (cc) in
    let m : length xs ≡ length ys = omega arith in
    let r = split_append xs ys u v m tail in
    (let first = r.0 in (cc), r.1)

-- an item of two lists stands in the front one, before what is left of it, or in the back one, after the front
pub record InFront {X : Type 0} (xs ys before : List X) (item : X) (after : List X) : Type 0 where
  pub rest : List X
  pub front : xs ≡ before ++ item ∷ rest
  pub back : after ≡ rest ++ ys

pub record InBack {X : Type 0} (xs ys before : List X) (item : X) (after : List X) : Type 0 where
  pub between : List X
  pub front : before ≡ xs ++ between
  pub back : ys ≡ between ++ item ∷ after

pub front_or_back : {X : Type 0} (xs ys before : List X) (item : X) (after : List X) →
    xs ++ ys ≡ before ++ item ∷ after → InFront xs ys before item after ⊎ InBack xs ys before item after
front_or_back [] ys before item after e = inr (record { between = before; front = refl; back = e })
front_or_back {X} (x ∷ xs) ys [] item after e =
    inl (record {
      rest = xs;
      front = ap (λ (y : X). y ∷ xs) (same_head x item (xs ++ ys) after e);
      back = sym (same_tail x item (xs ++ ys) after e);
    })
front_or_back {X} (x ∷ xs) ys (y ∷ before) item after e =
    let head = same_head x y (xs ++ ys) (before ++ item ∷ after) e in
    elim (front_or_back xs ys before item after (same_tail x y (xs ++ ys) (before ++ item ∷ after) e)) [
      | inl f ↦ inl (record { rest = f.rest; front = let tail = f.front in cc; back = f.back })
      | inr b ↦ inr (record { between = b.between; front = let tail = b.front in cc; back = b.back })
    ]

-- ---- ends

-- a list with a part that isn't empty
pub some_append_left : {X : Type 0} (xs ys : List X) → 0 < length xs → 0 < length (xs ++ ys)
some_append_left xs ys h = omega (arith, length-append xs ys)

pub some_append_right : {X : Type 0} (xs ys : List X) → 0 < length ys → 0 < length (xs ++ ys)
some_append_right xs ys h = omega (arith, length-append xs ys)

-- the first item of two lists
pub first_of_append : {X : Type 0} (xs ys : List X) (d : X) → 0 < length xs → get_or (xs ++ ys) 0 d ≡ get_or xs 0 d
first_of_append xs ys d h = get_or_append_left xs ys d 0 h

-- the first item of what is left of a list, with another after it
pub first_of_rest : {X : Type 0} (xs ys : List X) (k : ℕ) (d : X) → k < length xs →
    get_or (drop k xs ++ ys) 0 d ≡ get_or xs k d
first_of_rest [] ys k d h = absurd (omega arith)
first_of_rest (x ∷ xs) ys zero d h = refl
first_of_rest (x ∷ xs) ys (suc k) d h = first_of_rest xs ys k d (omega arith)

pub first_after_all : {X : Type 0} (xs ys : List X) (k : ℕ) (d : X) → length xs ≤ k →
    get_or (drop k xs ++ ys) 0 d ≡ get_or ys 0 d
first_after_all xs ys k d h = rw (drop_all k xs h) refl

-- ---- parts regrouped

pub regroup3 : {X : Type 0} (a b c d : List X) → (a ++ (b ++ c)) ++ d ≡ a ++ (b ++ (c ++ d))
regroup3 a b c d = simp append_assoc

pub regroup4 : {X : Type 0} (a b c d e : List X) → (a ++ (b ++ (c ++ d))) ++ e ≡ a ++ (b ++ (c ++ (d ++ e)))
regroup4 a b c d e = simp append_assoc

pub regroup6 : {X : Type 0} (a b c d e f : List X) →
    ((((a ++ b) ++ c) ++ d) ++ e) ++ f ≡ a ++ (b ++ (c ++ (d ++ (e ++ f))))
regroup6 a b c d e f = simp append_assoc

-- ---- what is left after a piece

pub drop_past : {X : Type 0} (xs piece rest : List X) (place n : ℕ) → drop place xs ≡ piece ++ rest →
    length piece ≡ n → drop (place + n) xs ≡ rest
drop_past {X} xs piece rest place n e p =
    sym (drop-drop n place xs) ∙ ap (λ (ys : List X). drop n ys) e ∙ drop_at piece rest n p

-- ---- what holds of each item

pub All-append_right : {X : Type 0} (P : X → Type 0) (xs ys : List X) → All P (xs ++ ys) → All P ys
All-append_right P [] ys all = all
All-append_right P (x ∷ xs) ys all = All-append_right P xs ys (All-tail P x (xs ++ ys) all)

-- also past the end, where the default is as it must be
pub All-get_or_any : {X : Type 0} (P : X → Type 0) (xs : List X) (i : ℕ) (d : X) → P d → All P xs → P (get_or xs i d)
All-get_or_any P xs i d p all = elim (cases_lt i (length xs)) [
  | inl inside ↦ All-get_or P xs i d inside all
  | inr past ↦ rw (get_or_past xs i d past) p
]

-- ---- one item again and again

-- it stands at each place, also past the end where it is the default
pub get_or-replicate_any : {X : Type 0} (n i : ℕ) (x : X) → get_or (replicate n x) i x ≡ x
get_or-replicate_any zero i x = refl
get_or-replicate_any (suc n) zero x = refl
get_or-replicate_any (suc n) (suc i) x = get_or-replicate_any n i x

pub drop-replicate_add : {X : Type 0} (n left : ℕ) (x : X) → drop n (replicate (n + left) x) ≡ replicate left x
drop-replicate_add {X} n left x =
    let e : n + left - n ≡ left = omega arith in
    drop-replicate n (n + left) x ∙ ap (λ (k : ℕ). replicate {A = X} k x) e

-- ---- writes after a front

pub set-append_add : {X : Type 0} (front back : List X) (at j : ℕ) (x : X) → length front ≡ at →
    set (front ++ back) (at + j) x ≡ front ++ set back j x
set-append_add {X} front back at j x e =
    let k : at + j - at ≡ j = omega arith in
    set-append_right front back at (at + j) x e (omega arith) ∙ ap (λ (i : ℕ). front ++ set {A = X} back i x) k

-- ---- lengths of texts of items

pub length-flat_map-le : {X A : Type 0} (f : X → List A) (P : X → Type 0) (most : ℕ) →
    ((x : X) → P x → length (f x) ≤ most) → (xs : List X) → All P xs → length (flat_map f xs) ≤ most * length xs
length-flat_map-le f P most short [] all = omega arith
length-flat_map-le f P most short (x ∷ xs) all =
    let first = short x (All-head P x xs all) in
    let rest = length-flat_map-le f P most short xs (All-tail P x xs all) in
    omega (arith, length-append (f x) (flat_map f xs))

pub length-flat_map-same : {X A : Type 0} (f : X → List A) (n : ℕ) → ((x : X) → length (f x) ≡ n) → (xs : List X) →
    length (flat_map f xs) ≡ n * length xs
length-flat_map-same f n same [] = omega arith
length-flat_map-same f n same (x ∷ xs) =
    omega (arith, length-append (f x) (flat_map f xs), same x, length-flat_map-same f n same xs)
