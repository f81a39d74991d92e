-- The places from one on that no voice's byte has.
use Rattle.std.proofs.Common.{◌≡◌, ℕ, suc, ◌+◌, ◌-◌, ◌≤◌, ◌<◌, List, ◌∷◌, filter, cond, nat_le, get_or, refl, ap, ◌∙◌}
use Rattle.std.proofs.Common.{arith}
use Rattle.std.proofs.lemmas.Bool.{le-leb, lt-leb}
use Rattle.std.specs.List.{range_with_len}
use Rattle.variable_places.specs.Places.{field_at, free_places}

abbrev pub free_from : ℕ → ℕ → List ℕ
free_from fields place = filter (λ p. nat_le fields (field_at p)) (range_with_len place (113 - place))

all_free : (fields : ℕ) → free_from fields 0 ≡ free_places fields
unfolding free_places
all_free fields = refl

next_in : (fields place left : ℕ) →
    filter (λ p. nat_le fields (field_at p)) (range_with_len place (suc left))
    ≡ cond (nat_le fields (field_at place))
    (place ∷ filter (λ p. nat_le fields (field_at p)) (range_with_len (place + 1) left))
    (filter (λ p. nat_le fields (field_at p)) (range_with_len (place + 1) left))
next_in fields place left = refl

next_free : (fields place : ℕ) → place < 113 →
    free_from fields place
    ≡ cond (nat_le fields (field_at place)) (place ∷ free_from fields (place + 1)) (free_from fields (place + 1))
next_free fields place low =
    let more : 113 - place ≡ suc (112 - place) = omega (arith, low) in
    let less : 113 - (place + 1) ≡ 112 - place = omega (arith, low) in
    rw (more, less) (next_in fields place (112 - place))

-- one that is free is the first of them
pub is_first : (fields place left : ℕ) → place < 113 → fields ≤ field_at place → left ≡ 0 →
    get_or (free_from fields place) left 0 ≡ place
is_first fields place left low free none =
    rw (none, next_free fields place low, le-leb fields (field_at place) free) refl

-- and one that is not leaves it to those behind it
pub is_behind : (fields place left less : ℕ) → place < 113 → fields ≤ field_at place → left ≡ less + 1 →
    get_or (free_from fields place) left 0 ≡ get_or (free_from fields (place + 1)) less 0
is_behind fields place left less low free more =
    ap (λ list. get_or list left 0) (next_free fields place low)
    ∙ (ap (λ b. get_or (cond b (place ∷ free_from fields (place + 1)) (free_from fields (place + 1))) left 0)
    (le-leb fields (field_at place) free)
    ∙ behind (free_from fields (place + 1)))
  where
    behind : (list : List ℕ) → get_or (place ∷ list) left 0 ≡ get_or list less 0
    behind list = let e : left ≡ suc less = omega (arith, more) in rw e refl

pub is_taken : (fields place left : ℕ) → place < 113 → field_at place < fields →
    get_or (free_from fields place) left 0 ≡ get_or (free_from fields (place + 1)) left 0
is_taken fields place left low taken =
    ap (λ list. get_or list left 0) (next_free fields place low)
    ∙ ap (λ b. get_or (cond b (place ∷ free_from fields (place + 1)) (free_from fields (place + 1))) left 0)
    (lt-leb fields (field_at place) taken)

-- behind the last place there are none
pub none_free : (fields place left : ℕ) → 113 ≤ place → get_or (free_from fields place) left 0 ≡ 0
none_free fields place left high = let none : 113 - place ≡ 0 = omega (arith, high) in rw none refl
