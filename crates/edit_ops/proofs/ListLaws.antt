-- Lists with one change: what holds of each item, and how long they are.
use Rattle.std.proofs.Common.{◌≡◌, ℕ, suc, ◌-◌, ◌<◌, Bool, false, List, [], ◌∷◌, length, take}
use Rattle.std.proofs.Common.{drop, replicate, All, arith, length-append}
use Rattle.std.specs.List.{insert, remove, list_any}
use Rattle.std.proofs.lemmas.Bool.{or_parts}
use Rattle.std.proofs.lemmas.List.{length-take, length-replicate}
use Rattle.std.proofs.lemmas.List.Edits.{length-remove}
use Rattle.std.proofs.lemmas.List.Elements.{All-nil, All-cons, All-append, All-take, All-drop, All-replicate}
use Rattle.base.specs.Limits.{KeepsLimit}
use Rattle.edit_ops.specs.Lists.{resized}

pub All-insert : {X : Type 0} (P : X → Type 0) (xs : List X) (i : ℕ) (x : X) → P x → All P xs → All P (insert xs i x)
All-insert P xs i x p all =
    All-append P (take i xs) (x ∷ drop i xs) (All-take P i xs all) (All-cons P x (drop i xs) p (All-drop P i xs all))

pub All-remove : {X : Type 0} (P : X → Type 0) (xs : List X) (i : ℕ) → All P xs → All P (remove xs i)
All-remove P xs i all =
    All-append P (take i xs) (drop (suc i) xs) (All-take P i xs all) (All-drop P (suc i) xs all)

pub All-resized : {X : Type 0} (P : X → Type 0) (n : ℕ) (x : X) (xs : List X) → P x → All P xs → All P (resized n x xs)
All-resized P n x xs p all =
    All-append P (take n xs) (replicate (n - length xs) x) (All-take P n xs all)
    (All-replicate P (n - length xs) x p)

pub length-resized : {X : Type 0} (n : ℕ) (x : X) (xs : List X) → length (resized n x xs) ≡ n
length-resized n x xs =
    omega (
      arith,
      length-append (take n xs) (replicate (n - length xs) x),
      length-take n xs,
      length-replicate
          (n - length xs) x,
    )

pub remove_keeps : {X : Type 0} (most : ℕ) (P : X → Type 0) (xs : List X) (i : ℕ) → KeepsLimit most P xs →
    i < length xs → KeepsLimit most P (remove xs i)
remove_keeps most P xs i keeps inside = record {
  count = omega (arith, length-remove xs i inside, keeps.count);
  each = All-remove P xs i keeps.each;
}

-- no item passes a test that none passes
pub none_passes : {X : Type 0} (p : X → Bool) (xs : List X) → list_any p xs ≡ false → All (λ x. p x ≡ false) xs
none_passes p [] e = All-nil (λ x. p x ≡ false)
none_passes p (x ∷ xs) e =
    let parts = or_parts (p x) (list_any p xs) e in
    All-cons (λ y. p y ≡ false) x xs parts.0 (none_passes p xs parts.1)
