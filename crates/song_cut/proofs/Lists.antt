-- Lists item by item.
use Rattle.std.proofs.Common.{◌≡◌, ℕ, suc, ◌+◌, ◌<◌, ◌≤◌, Bool, true, List, [], ◌∷◌, ◌++◌}
use Rattle.std.proofs.Common.{not, length, take, get_or, All, Contains, refl, sym, ◌∙◌, ap, subst, arith}
use Rattle.std.specs.List.{flat_map, filter, range_with_len}
use Rattle.std.proofs.lemmas.List.{append-nil, take_more}
use Rattle.std.proofs.lemmas.List.Elements.{All-contains}
use Rattle.std.proofs.lemmas.Grind.{flat_map-append}
use Rattle.std.proofs.lemmas.List.Filters.{length-filter_both}
use Rattle.base.proofs.Laws.{filter_keeps}
use Rattle.packing_rules.proofs.Laws.{range_more}

pub flat_map_push : {X Y : Type 0} (f : X → List Y) (xs : List X) (x : X) →
    flat_map f (xs ++ x ∷ []) ≡ flat_map f xs ++ f x
flat_map_push {X} {Y} f xs x =
    flat_map-append f xs (x ∷ []) ∙ ap (λ (ys : List Y). flat_map f xs ++ ys) (append-nil (f x))

pub flat_map_next : {X Y : Type 0} (f : X → List Y) (xs : List X) (i : ℕ) (d : X) → i < length xs →
    flat_map f (take (i + 1) xs) ≡ flat_map f (take i xs) ++ f (get_or xs i d)
flat_map_next f xs i d inside =
    ap (flat_map f) (take_more xs i d inside) ∙ flat_map_push f (take i xs) (get_or xs i d)

-- one number more
pub range_next : (n : ℕ) → range_with_len 0 (n + 1) ≡ range_with_len 0 n ++ n ∷ []
range_next n =
    let more : n + 1 ≡ suc n = omega arith in
    let next : 0 + n ≡ n = omega arith in
    ap (range_with_len 0) more ∙ range_more 0 n ∙ ap (λ (k : ℕ). range_with_len 0 n ++ k ∷ []) next

pub filter_few : {X : Type 0} (p : X → Bool) (xs : List X) → length (filter p xs) ≤ length xs
filter_few p xs =
    let both = length-filter_both p (λ x. not (p x)) (λ x. refl) xs in
    omega arith

-- what holds of all that is kept holds of an item that is kept
pub kept_holds : {X : Type 0} (P : X → Type 0) (p : X → Bool) (all xs : List X) (i : ℕ) (x : X) → xs ≡ all →
    i < length xs →
    x ≡ get_or xs i x → p x ≡ true → All P (filter p all) → P x
kept_holds {X} P p all xs i x same inside is kept holds =
    let has : Contains xs x = (i, inside, sym is) in
    All-contains P (filter p all) x holds
    (filter_keeps p all x (subst (λ (ys : List X). Contains ys x) same has) kept)
