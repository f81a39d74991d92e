-- Lists of which the front is filled.
use Rattle.std.proofs.Common.{◌≡◌, ℕ, zero, suc, ◌+◌, ◌-◌, ◌<◌, ◌≤◌, true, false, eqb, get_or}
use Rattle.std.proofs.Common.{set, map, take, List, [], ◌∷◌, ◌++◌, length, replicate, All, refl, sym, ap}
use Rattle.std.proofs.Common.{◌∙◌, subst, inl, inr, arith, length-append}
use Rattle.std.specs.List.{insert, list_all}
use Rattle.std.proofs.lemmas.Bool.{and_parts, cases_lt, eqb-true, ne_eqb}
use Rattle.std.proofs.lemmas.List.{append-nil, get_or_at, length-replicate, replicate-append-replicate, take-replicate, take_all}
use Rattle.std.proofs.Math.Seq.{set-append_seam}
use Rattle.song_model.specs.LookUp.{numbered}
use Rattle.edit_ops.specs.Lists.{resized}

pub seam : {X : Type 0} (front rest : List X) (y x : X) (k : ℕ) → k ≡ length front →
    set (front ++ y ∷ rest) k x ≡ front ++ x ∷ rest
seam front rest y x k is = ap (λ n. set (front ++ y ∷ rest) n x) is ∙ set-append_seam front y rest x

pub get_seam : {X : Type 0} (front rest : List X) (y d : X) (k : ℕ) → k ≡ length front →
    get_or (front ++ y ∷ rest) k d ≡ y
get_seam front rest y d k is = get_or_at front y rest d k (sym is)

pub numbered_seam : {X : Type 0} (front rest : List X) (y d : X) (n : ℕ) → n ≡ 1 + length front →
    numbered (front ++ y ∷ rest) n d ≡ y
numbered_seam front rest y d n is =
    let some : eqb n 0 ≡ false = ne_eqb n 0 (λ none. absurd (omega (arith, none, is))) in
    rw some (get_or_at front y rest d (n - 1) (omega (arith, is)))

pub set_numbered : {X : Type 0} (front rest : List X) (y x : X) (n : ℕ) → n ≡ 1 + length front →
    set (front ++ y ∷ rest) (n - 1) x ≡ front ++ x ∷ rest
set_numbered front rest y x n is = seam front rest y x (n - 1) (omega (arith, is))

pub seam_long : {X : Type 0} (front rest : List X) (y : X) → length (front ++ y ∷ rest) ≡ length front + 1 + length rest
seam_long front rest y = omega (arith, length-append front (y ∷ rest))

pub insert_last : {X : Type 0} (xs : List X) (k : ℕ) (x : X) → k ≡ length xs → insert xs k x ≡ xs ++ x ∷ []
insert_last {X} xs k x is =
    ap (λ n. insert xs n x) is ∙ inserted xs
  where
    inserted : (ys : List X) → insert ys (length ys) x ≡ ys ++ x ∷ []
    inserted [] = refl
    inserted (y ∷ ys) = ap (λ (zs : List X). y ∷ zs) (inserted ys)

pub one_more : {X : Type 0} (n : ℕ) (x : X) → replicate n x ++ x ∷ [] ≡ replicate (suc n) x
one_more zero x = refl
one_more {X} (suc n) x = ap (λ (xs : List X). x ∷ xs) (one_more n x)

pub map-replicate : {X Y : Type 0} (f : X → Y) (n : ℕ) (x : X) (y : Y) → f x ≡ y → map f (replicate n x) ≡ replicate n y
map-replicate f zero x y is = refl
map-replicate f (suc n) x y is = rw (is, map-replicate f n x y is) refl

pub resized_none : {X : Type 0} (n : ℕ) (x : X) → resized n x [] ≡ replicate n x
resized_none zero x = refl
resized_none (suc n) x = let all : suc n - 0 ≡ suc n = omega arith in ap (λ k. replicate k x) all

cut : {X : Type 0} (m n : ℕ) (x : X) → n ≤ m → resized n x (replicate m x) ≡ replicate n x
cut m n x few =
    let over : n - length (replicate m x) ≡ 0 = omega (arith, length-replicate m x, few) in
    ap (λ xs. xs ++ replicate (n - length (replicate m x)) x) (take-replicate n m x few)
    ∙ ap (λ k. replicate n x ++ replicate k x) over ∙ append-nil (replicate n x)

added : {X : Type 0} (m n : ℕ) (x : X) → m ≤ n → resized n x (replicate m x) ≡ replicate n x
added m n x many =
    let front : take n (replicate m x) ≡ replicate m x =
    take_all n (replicate m x) (omega (arith, length-replicate m x, many)) in
    let total : m + (n - length (replicate m x)) ≡ n = omega (arith, length-replicate m x, many) in
    ap (λ xs. xs ++ replicate (n - length (replicate m x)) x) front
    ∙ replicate-append-replicate m (n - length (replicate m x)) x ∙ ap (λ k. replicate k x) total

pub resized_same : {X : Type 0} (m n : ℕ) (x : X) → resized n x (replicate m x) ≡ replicate n x
resized_same m n x = elim (cases_lt n m) [
  | inl few ↦ cut m n x (omega (arith, few))
  | inr many ↦ added m n x many
]

-- ---- what holds of each item

pub item_holds : {X : Type 0} (P : X → Type 0) (whole front back : List X) (x : X) → whole ≡ front ++ x ∷ back →
    All P whole → P x
item_holds P whole front back x is each =
    let lt : length front < length whole = omega (arith, ap length is, length-append front (x ∷ back)) in
    let same : get_or whole (length front) x ≡ x =
    ap (λ xs. get_or xs (length front) x) is ∙ get_or_at front x back x (length front) refl in
    subst P same (each (length front) x lt)

pub front_short : {X : Type 0} (whole front back : List X) (x : X) → whole ≡ front ++ x ∷ back →
    length front + 1 + length back ≡ length whole
front_short whole front back x is = omega (arith, ap length is, length-append front (x ∷ back))

-- a list of zeros alone
pub all_zero : (text : List ℕ) (n : ℕ) → length text ≡ n → list_all (λ byte. eqb byte 0) text ≡ true →
    text ≡ replicate n 0
all_zero [] n long e = let none : n ≡ 0 = omega (arith, long) in rw none refl
all_zero (byte ∷ text) zero long e = absurd (omega (arith, long))
all_zero (byte ∷ text) (suc n) long e =
    let parts = and_parts (eqb byte 0) (list_all (λ byte. eqb byte 0) text) e in
    let others = all_zero text n (omega (arith, long)) parts.1 in
    let is : byte ≡ 0 = eqb-true byte 0 parts.0 in
    ap (λ (first : ℕ). first ∷ text) is ∙ ap (λ (more : List ℕ). 0 ∷ more) others
