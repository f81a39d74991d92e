-- Where the bytes of the voices and the others end, and that each place stands among those that are counted.
use Rattle.std.proofs.Common.{◌≡◌, ℕ, ◌+◌, ◌-◌, ◌<◌, ◌≤◌, ◌⊎◌, Bool, true, false, max, refl, inl, inr, arith}
use Rattle.std.proofs.lemmas.Bool.{cases_lt, cases_Bool, ne_eqb}
use Rattle.variable_places.specs.Places.{voice_of, has_byte, field_count, other_count, own_place, free_place}
use Rattle.variable_places.specs.Places.{voices_end, others_end, funk_place, place_of, variable_count}
use Rattle.variable_places.specs.PlaceLaws.{PlacesAreWithin, CountsAreFew}
use Rattle.variable_places.proofs.FreeOrder.{in_order, is_low}
use Rattle.variable_places.proofs.Owners.{few_fields, few_others, none_stands, IsOwn, IsOther, IsFunk, kinds}

pub voices_are_three : (label : ℕ) → voice_of label < 3
voices_are_three label = omega arith

in_voices : (fields field voice : ℕ) → field < fields → voice < 3 → own_place field voice < voices_end fields
in_voices fields field voice few three = omega (arith, few, three)

few_voices : (fields : ℕ) → fields ≤ 34 → voices_end fields ≤ 104
few_voices fields few = omega (arith, few)

-- the end of the others is behind the last of them
pub others_end_is : (fields others : ℕ) → 0 < others → others_end fields others ≡ free_place fields (others - 1) + 1
others_end_is fields others some = rw (ne_eqb others 0 (λ e. omega (arith, some, e))) refl

in_others : (fields others number : ℕ) → fields < 35 → others ≤ 9 → number < others →
    free_place fields number < others_end fields others
in_others fields others number few nine low =
    rw (others_end_is fields others (omega (arith, low))) (go (cases_lt number (others - 1)))
  where
    go : (number < others - 1) ⊎ (others - 1 ≤ number) → free_place fields number < free_place fields (others - 1) + 1
    go (inl less) =
        let order = in_order fields number (others - 1) few less (omega (arith, nine, low)) in omega (arith, order)
    go (inr last) = let is : number ≡ others - 1 = omega (arith, low, last) in rw is (omega arith)

few_in_others : (fields others : ℕ) → fields < 35 → others ≤ 9 → others_end fields others ≤ 111
few_in_others fields others few nine = elim (cases_lt 0 others) [
  | inl some ↦
      let low = is_low fields (others - 1) few (omega (arith, nine, some)) in
      rw (others_end_is fields others some) (omega (arith, low))
  | inr none ↦ let is : others ≡ 0 = omega (arith, none) in rw is (omega arith)
]

-- the funk tempos stand behind all of them
behind_one : (one two : ℕ) → one ≤ max one two
behind_one one two = omega arith

behind_other : (one two : ℕ) → two ≤ max one two
behind_other one two = omega arith

few_of_both : (one two most : ℕ) → one ≤ most → two ≤ most → max one two ≤ most
few_of_both one two most few less = omega (arith, few, less)

pub own_in_front : (holds : ℕ → Bool) (label : ℕ) → IsOwn holds label → place_of holds label < funk_place holds
unfolding funk_place
own_in_front holds label own =
    let low = in_voices (field_count holds) own.field (voice_of label) own.few (voices_are_three label) in
    let behind = behind_one (voices_end (field_count holds)) (others_end (field_count holds) (other_count holds)) in
    rw own.place_is (omega (arith, low, behind))

pub other_in_front : (holds : ℕ → Bool) (label : ℕ) → IsOther holds label → place_of holds label < funk_place holds
unfolding funk_place
other_in_front holds label other =
    let fields = few_fields holds in
    let low = in_others (field_count holds) (other_count holds) other.number (omega (arith, fields)) (few_others holds)
    other.few in
    let behind = behind_other (voices_end (field_count holds)) (others_end (field_count holds) (other_count holds)) in
    rw other.place_is (omega (arith, low, behind))

some_in_front : (holds : ℕ → Bool) → 0 < funk_place holds
unfolding funk_place
some_in_front holds =
    let behind = behind_one (voices_end (field_count holds)) (others_end (field_count holds) (other_count holds)) in
    omega (arith, behind)

few_in_front : (holds : ℕ → Bool) → funk_place holds ≤ 111
unfolding funk_place
few_in_front holds =
    let fields = few_fields holds in
    let voices = few_voices (field_count holds) fields in
    few_of_both (voices_end (field_count holds)) (others_end (field_count holds) (other_count holds)) 111
    (omega (arith, voices))
    (few_in_others (field_count holds) (other_count holds) (omega (arith, fields)) (few_others holds))

-- ---- what is counted

pub counts_funk : (holds : ℕ → Bool) → has_byte holds 111 ≡ true → variable_count holds ≡ funk_place holds + 2
unfolding variable_count
counts_funk holds both = rw both refl

pub counts_none : (holds : ℕ → Bool) → has_byte holds 111 ≡ false → variable_count holds ≡ funk_place holds
unfolding variable_count
counts_none holds none = rw none refl

pub counts_all : (holds : ℕ → Bool) → funk_place holds ≤ variable_count holds
counts_all holds = elim (cases_Bool (has_byte holds 111)) [
  | inl both ↦ rw (counts_funk holds both) (omega arith)
  | inr none ↦ rw (counts_none holds none) (omega arith)
]

pub counts_are_few : CountsAreFew
counts_are_few holds =
    let some = some_in_front holds in
    let few = few_in_front holds in
    elim (cases_Bool (has_byte holds 111)) [
      | inl both ↦ rw (counts_funk holds both) (omega (arith, some), omega (arith, few))
      | inr none ↦ rw (counts_none holds none) (omega (arith, some), omega (arith, few))
    ]

pub places_are_within : PlacesAreWithin
places_are_within holds label low = elim (cases_Bool (has_byte holds label)) [
  | inl there ↦ go (kinds holds label low there)
  | inr none ↦
      let some = some_in_front holds in
      let all = counts_all holds in
      rw (none_stands holds label none) (omega (arith, some, all))
]
  where
    go : IsOwn holds label ⊎ (IsOther holds label ⊎ IsFunk holds label) → place_of holds label < variable_count holds
    go (inl own) =
        let front = own_in_front holds label own in let all = counts_all holds in omega (arith, front, all)
    go (inr (inl other)) =
        let front = other_in_front holds label other in let all = counts_all holds in omega (arith, front, all)
    go (inr (inr funk)) =
        let few = funk.few in rw (funk.place_is, counts_funk holds funk.both) (omega (arith, few))
