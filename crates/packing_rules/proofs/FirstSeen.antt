-- Items with no equal one before them, one item more at a time.
use Rattle.std.proofs.Common.{◌≡◌, ℕ, Bool, true, false, not, ◌||◌, if◌then◌else◌, List, []}
use Rattle.std.proofs.Common.{◌∷◌, ◌++◌, refl, sym, ◌∙◌, ap}
use Rattle.std.specs.List.{filter, list_any}
use Rattle.std.proofs.lemmas.Bool.{eqb-true, and_parts}
use Rattle.std.proofs.lemmas.List.Elements.{filter-append}
use Rattle.song_model.specs.declared.tables.TableRow.{TableRow}
use Rattle.packing_rules.specs.Renumbering.{first_seen, same_row}

-- a list with an item at its end, where no equal one is there
abbrev pub with_new : {X : Type 0} → (X → X → Bool) → List X → X → List X
with_new same xs y = if list_any (same y) xs then xs else xs ++ y ∷ []

any_left_out : {X : Type 0} (test q : X → Bool) (x : X) (rest : Bool) → (test x ≡ true → q x ≡ true) → q x ≡ false →
    rest ≡ (test x || rest)
any_left_out test q x rest each fails = by_test (test x) refl
  where
    by_test : (b : Bool) → test x ≡ b → rest ≡ (test x || rest)
    by_test true is = absurd (let kept = each is in cc)
    by_test false is = rw is refl

pub any_filter : {X : Type 0} (test q : X → Bool) (xs : List X) → ((x : X) → test x ≡ true → q x ≡ true) →
    list_any test (filter q xs) ≡ list_any test xs
any_filter test q [] each = refl
any_filter test q (x ∷ xs) each = by_kept (q x) refl (any_filter test q xs each)
  where
    by_kept : (b : Bool) → q x ≡ b → list_any test (filter q xs) ≡ list_any test xs →
        list_any test (filter q (x ∷ xs)) ≡ list_any test (x ∷ xs)
    by_kept true e rest = rw e (ap (λ (b : Bool). test x || b) rest)
    by_kept false e rest = rw e (rest ∙ any_left_out test q x (list_any test xs) (each x) e)

append_none : {X : Type 0} (xs : List X) → xs ++ [] ≡ xs
append_none [] = refl
append_none {X} (x ∷ xs) = ap (λ (t : List X). x ∷ t) (append_none xs)

-- an item that is dropped behind an equal one
filter_drops : {X : Type 0} (same : X → X → Bool) (q : X → Bool) (xs : List X) (y : X) → q y ≡ false →
    filter q (with_new same xs y) ≡ filter q xs
filter_drops {X} same q xs y fails = by_any (list_any (same y) xs) refl
  where
    by_any : (b : Bool) → list_any (same y) xs ≡ b → filter q (with_new same xs y) ≡ filter q xs
    by_any true h = rw h refl
    by_any false h = rw h (filter-append q xs (y ∷ []) ∙ rw fails (append_none (filter q xs)))

-- an item that isn't
filter_keeps_new : {X : Type 0} (same : X → X → Bool) (q : X → Bool) (x : X) (xs : List X) (y : X) → q y ≡ true →
    same y x ≡ false → list_any (same y) (filter q xs) ≡ list_any (same y) xs →
    x ∷ filter q (with_new same xs y) ≡ with_new same (x ∷ filter q xs) y
filter_keeps_new {X} same q x xs y is other kept = by_any (list_any (same y) xs) refl
  where
    by_any : (b : Bool) → list_any (same y) xs ≡ b → x ∷ filter q (with_new same xs y) ≡ with_new same (x ∷ filter q xs) y
    by_any true h = let g : list_any (same y) (filter q xs) ≡ true = kept ∙ h in rw (other, g, h) refl
    by_any false h =
        let g : list_any (same y) (filter q xs) ≡ false = kept ∙ h in
        rw (other, g, h) (ap (λ (zs : List X). x ∷ zs) (filter-append q xs (y ∷ []) ∙ rw is refl))

with_new_there : {X : Type 0} (same : X → X → Bool) (x : X) (xs : List X) (y : X) → same y x ≡ true →
    with_new same (x ∷ xs) y ≡ x ∷ xs
with_new_there same x xs y is = rw is refl

pub first_seen_push : {X : Type 0} (same : X → X → Bool) → ((x y : X) → same x y ≡ true → x ≡ y) → (xs : List X) (y : X) →
    first_seen same (xs ++ y ∷ []) ≡ with_new same (first_seen same xs) y
first_seen_push same is_same [] y = refl
first_seen_push {X} same is_same (x ∷ xs) y =
    ap (λ (zs : List X). x ∷ filter (λ z. not (same z x)) zs) (first_seen_push same is_same xs y)
    ∙ by_same (same y x) refl
  where
    by_same : (b : Bool) → same y x ≡ b →
        x ∷ filter (λ z. not (same z x)) (with_new same (first_seen same xs) y)
        ≡ with_new same (x ∷ filter (λ z. not (same z x)) (first_seen same xs)) y
    by_same true e =
        ap (λ (zs : List X). x ∷ zs)
        (filter_drops same (λ z. not (same z x)) (first_seen same xs) y (ap not e))
        ∙ sym (with_new_there same x (filter (λ z. not (same z x)) (first_seen same xs)) y e)
    by_same false e =
        filter_keeps_new same (λ z. not (same z x)) x (first_seen same xs) y (ap not e) e
        (any_filter (same y) (λ z. not (same z x)) (first_seen same xs)
        (λ z is. ap (λ (t : X). not (same t x)) (sym (is_same y z is)) ∙ ap not e))

-- ---- rows

pub same_row_is : (x y : TableRow) → same_row x y ≡ true → x ≡ y
same_row_is x y is =
    let parts = and_parts _ _ is in
    let with_left : ℕ → TableRow = λ k. record { left = k; right = x.right } in
    let with_right : ℕ → TableRow = λ k. record { left = y.left; right = k } in
    ap with_left (eqb-true x.left y.left parts.0) ∙ ap with_right (eqb-true x.right y.right parts.1)
