-- The free places rise, each has a field that is none of the voices', and the first nine stand among the variables'
-- places with two behind: tested for each number of fields.
use Rattle.std.proofs.Common.{◌≡◌, ℕ, ◌<◌, ◌≤◌, Bool, true, ◌&&◌, nat_lt, nat_le, length, refl, arith, inl, inr}
use Rattle.std.proofs.lemmas.Bool.{and_parts, ltb-true, leb-true, agree_below, agree_below_at, cases_lt}
use Rattle.variable_places.specs.Places.{field_at, free_places, free_place}
use Rattle.variable_places.proofs.Lists.{rises, rises_at, all_pass, passes_at}

abbrev are_good : ℕ → Bool
are_good fields =
    (rises (free_places fields) && all_pass (λ place. nat_le fields (field_at place)) (free_places fields))
    && (nat_lt 8 (length (free_places fields)) && nat_lt (free_place fields 8) 111)

all_are_good : agree_below are_good (λ _. true) 35 ≡ true
unfolding free_places
all_are_good = refl

record AreGood (fields : ℕ) : Type 0 where
  risen : rises (free_places fields) ≡ true
  free : all_pass (λ place. nat_le fields (field_at place)) (free_places fields) ≡ true
  many : 8 < length (free_places fields)
  last : free_place fields 8 < 111

good : (fields : ℕ) → fields < 35 → AreGood fields
good fields few =
    let both = and_parts _ _ (agree_below_at are_good (λ _. true) 35 fields all_are_good few) in
    let one = and_parts (rises (free_places fields)) _ both.0 in
    let other = and_parts (nat_lt 8 (length (free_places fields))) _ both.1 in
    record {
      risen = one.0;
      free = one.1;
      many = ltb-true 8 (length (free_places fields)) other.0;
      last = ltb-true (free_place fields 8) 111 other.1;
    }

pub is_free : (fields number : ℕ) → fields < 35 → number < 9 → fields ≤ field_at (free_place fields number)
is_free fields number few low =
    let all = good fields few in
    let many = all.many in
    leb-true fields (field_at (free_place fields number))
    (passes_at (λ place. nat_le fields (field_at place)) (free_places fields) number all.free
    (omega (arith, many, low)))

pub in_order : (fields i j : ℕ) → fields < 35 → i < j → j < 9 → free_place fields i < free_place fields j
in_order fields i j few order low =
    let all = good fields few in
    let many = all.many in
    rises_at (free_places fields) i j all.risen order (omega (arith, many, low))

pub is_low : (fields number : ℕ) → fields < 35 → number < 9 → free_place fields number < 111
is_low fields number few low = let last = (good fields few).last in elim (cases_lt number 8) [
  | inl less ↦ let order = in_order fields number 8 few less (omega arith) in omega (arith, order, last)
  | inr more ↦ let is : number ≡ 8 = omega (arith, low, more) in rw is last
]
