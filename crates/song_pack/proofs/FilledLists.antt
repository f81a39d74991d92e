-- Lists of numbers that a loop fills from the front.
use Rattle.std.proofs.Common.{◌≡◌, ℕ, ◌+◌, ◌<◌, List, [], ◌∷◌, ◌++◌, map, take, length}
use Rattle.std.proofs.Common.{get_or, slice_index, sym, ◌∙◌, ap, subst, inl, inr, arith}
use Rattle.std.proofs.Math.ListN.{set}
use Rattle.std.proofs.lemmas.Bool.{cases_lt}
use Rattle.std.proofs.lemmas.List.{get_or-set_same, get_or-set_other, length-set, map_more}

-- the first n numbers are those that a function gives
pub record FilledTo (f : ℕ → ℕ) (size n : ℕ) (list : List ℕ) : Type 0 where
  pub long : length list ≡ size
  pub is : (p : ℕ) → p < n → slice_index list p ≡ f p

pub filled_none : (f : ℕ → ℕ) (size : ℕ) (list : List ℕ) → length list ≡ size → FilledTo f size 0 list
filled_none f size list long = record { long = long; is = λ p low. absurd (omega arith) }

pub filled_more : (f : ℕ → ℕ) (size n x : ℕ) (list : List ℕ) → FilledTo f size n list → n < size → x ≡ f n →
    FilledTo f size (n + 1) (set list n x)
filled_more f size n x list so_far inside x_is = record {
  long = length-set list n x ∙ so_far.long;
  is = λ p low. elim (cases_lt p n) [
    | inl before ↦ get_or-set_other list n p x 0 (λ (e : p ≡ n). omega arith) ∙ so_far.is p before
    | inr last ↦ (
        let e : p ≡ n = omega arith in
        rw e (get_or-set_same list n x 0 (subst (λ (k : ℕ). n < k) (sym so_far.long) inside) ∙ x_is))
  ];
}

-- what a function makes of items, one item more at a time
pub map_push : {X Y : Type 0} (f : X → Y) (xs : List X) (i : ℕ) (d : X) (ys : List Y) (y : Y) → i < length xs →
    ys ≡ map f (take i xs) → y ≡ f (get_or xs i d) → ys ++ y ∷ [] ≡ map f (take (i + 1) xs)
map_push {X} {Y} f xs i d ys y inside ys_are y_is =
    ap (λ (zs : List Y). zs ++ y ∷ []) ys_are ∙ ap (λ (z : Y). map f (take i xs) ++ z ∷ []) y_is
    ∙ sym (map_more f xs i d inside)
