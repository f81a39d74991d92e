-- What holds of some item of a list, one item more at a time, and what a filter keeps.
use Rattle.std.proofs.Common.{◌≡◌, ℕ, zero, suc, ◌+◌, ◌<◌, ◌⊎◌, Bool, true, List, [], ◌∷◌}
use Rattle.std.proofs.Common.{◌++◌, length, map, get_or, take, refl, sym, ap, ◌∙◌, inl, inr, arith}
use Rattle.std.proofs.Common.{length-append, subst}
use Rattle.std.specs.List.{Any, Contains, filter}
use Rattle.std.proofs.lemmas.Bool.{cases_lt, cases_Bool}
use Rattle.std.proofs.lemmas.List.{take_more, get_or_append_left, length-map, get_or-map}
use Rattle.std.proofs.lemmas.List.Elements.{All-contains, All-contains_itself, All-filter, filter_passes}
use Rattle.std.proofs.Math.Seq.{get_or-append_seam}

-- some item of a list with one more is such: it is one of the list, or the one more
pub any_of_push : {X : Type 0} (P : X → Type 0) (xs : List X) (y : X) → Any P (xs ++ y ∷ []) → Any P xs ⊎ P y
any_of_push {X} P xs y (k, x, inside, is, holds) =
    elim (cases_lt k (length xs)) [
      | inl there ↦ inl (k, x, there, sym (get_or_append_left xs (y ∷ []) x k there) ∙ is, holds)
      | inr last ↦
          let k_is : k ≡ length xs = omega (arith, length-append xs (y ∷ [])) in
          let e : get_or (xs ++ y ∷ []) k x ≡ y = rw k_is (get_or-append_seam xs y [] x) in
          inr (subst P (sym is ∙ e) holds)
    ]

pub any_left : {X : Type 0} (P : X → Type 0) (xs : List X) (y : X) → Any P xs → Any P (xs ++ y ∷ [])
any_left P xs y (k, x, inside, is, holds) =
    (k, x, omega (arith, length-append xs (y ∷ [])), get_or_append_left xs (y ∷ []) x k inside ∙ is, holds)

pub any_last : {X : Type 0} (P : X → Type 0) (xs : List X) (y : X) → P y → Any P (xs ++ y ∷ [])
any_last P xs y holds = (length xs, y, omega (arith, length-append xs (y ∷ [])), get_or-append_seam xs y [] y, holds)

pub none_of_nil : {X : Type 0} (P : X → Type 0) → Any P [] → ⊥
none_of_nil P (k, x, inside, is, holds) = omega arith

-- some item of the first i + 1 is such: it is one of the first i, or the next
pub any_of_more : {X : Type 0} (P : X → Type 0) (xs : List X) (i : ℕ) (d : X) → i < length xs →
    Any P (take (i + 1) xs) → Any P (take i xs) ⊎ P (get_or xs i d)
any_of_more {X} P xs i d inside any =
    any_of_push P (take i xs) (get_or xs i d) (subst (λ (ys : List X). Any P ys) (take_more xs i d inside) any)

pub any_more : {X : Type 0} (P : X → Type 0) (xs : List X) (i : ℕ) (d : X) → i < length xs →
    Any P (take i xs) ⊎ P (get_or xs i d) → Any P (take (i + 1) xs)
any_more {X} P xs i d inside (inl any) =
    subst (λ (ys : List X). Any P ys) (sym (take_more xs i d inside)) (any_left P (take i xs) (get_or xs i d) any)
any_more {X} P xs i d inside (inr holds) =
    subst (λ (ys : List X). Any P ys) (sym (take_more xs i d inside)) (any_last P (take i xs) (get_or xs i d) holds)

-- an item is in a list, as some item that is it
pub any_from_contains : (xs : List ℕ) (n : ℕ) → Contains xs n → Any (λ x. x ≡ n) xs
any_from_contains xs n (k, inside, is) = (k, n, inside, is, refl)

pub contains_from_any : (xs : List ℕ) (n : ℕ) → Any (λ x. x ≡ n) xs → Contains xs n
contains_from_any xs n (k, x, inside, is, same) = (k, inside, subst (λ (y : ℕ). get_or xs k y ≡ y) same is)

contains_later : {X : Type 0} (y : X) (xs : List X) (x : X) → Contains xs x → Contains (y ∷ xs) x
contains_later y xs x (k, inside, is) = (suc k, omega arith, is)

-- what a filter keeps: the items that pass
pub filter_keeps : {X : Type 0} (p : X → Bool) (xs : List X) (x : X) → Contains xs x → p x ≡ true →
    Contains (filter p xs) x
filter_keeps p [] x c pass = c
filter_keeps {X} p (y ∷ xs) x (zero, inside, is) pass =
    let first : p y ≡ true = subst (λ (z : X). p z ≡ true) (sym is) pass in
    rw first (zero, omega arith, is)
filter_keeps p (y ∷ xs) x (suc k, inside, is) pass =
    let later = filter_keeps p xs x (k, omega arith, is) pass in
    elim (cases_Bool (p y)) [
      | inl kept ↦ rw kept (contains_later y (filter p xs) x later)
      | inr dropped ↦ rw dropped later
    ]

pub filter_of : {X : Type 0} (p : X → Bool) (xs : List X) (x : X) → Contains (filter p xs) x →
    Contains xs x × (p x ≡ true)
filter_of p xs x c = (
  All-contains (Contains xs) (filter p xs) x (All-filter p (Contains xs) xs (All-contains_itself xs)) c,
  All-contains (λ y. p y ≡ true) (filter p xs) x (filter_passes p xs) c,
)

-- an item of a list, as what a function makes of it
pub contains_map : {X Y : Type 0} (f : X → Y) (xs : List X) (x : X) → Contains xs x → Contains (map f xs) (f x)
contains_map f xs x (k, inside, is) = (
  k,
  subst (λ (n : ℕ). k < n) (sym (length-map xs f)) inside,
  get_or-map f xs k x (f x) inside ∙ ap f is,
)
