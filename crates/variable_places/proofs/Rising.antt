-- Where more conditions hold there are no fewer places.
use Rattle.std.proofs.Common.{◌≡◌, ℕ, zero, suc, ◌+◌, ◌-◌, ◌<◌, ◌≤◌, ◌⊎◌, Bool, true, false, nat_le, max}
use Rattle.std.proofs.Common.{refl, subst, inl, inr, arith}
use Rattle.std.proofs.lemmas.Bool.{cases_lt, cases_Bool, leb-true, agree_below, agree_below_at}
use Rattle.variable_places.specs.Places.{voice_rows, shared_rows, asks, has_byte, voice_labels, field_count, other_labels}
use Rattle.variable_places.specs.Places.{other_count, free_places, free_place, voices_end, others_end, funk_place}
use Rattle.variable_places.specs.Places.{variable_count}
use Rattle.variable_places.specs.PlaceLaws.{CountsRise, CountsAreNoFewer}
use Rattle.variable_places.proofs.Lists.{stands_rises, stand_more}
use Rattle.variable_places.proofs.FreeOrder.{in_order}
use Rattle.variable_places.proofs.Owners.{few_fields, few_others}
use Rattle.variable_places.proofs.Within.{others_end_is, counts_funk, counts_none, counts_all}

-- ---- with one field more no free place is further in front: tested for each number of fields

abbrev rises_with : ℕ → Bool
rises_with fields =
    agree_below (λ number. nat_le (free_place fields number) (free_place (fields + 1) number)) (λ _. true) 9

all_rise : agree_below rises_with (λ _. true) 34 ≡ true
unfolding free_places
all_rise = refl

one_more : (fields number : ℕ) → fields < 34 → number < 9 → free_place fields number ≤ free_place (fields + 1) number
one_more fields number few low =
    leb-true (free_place fields number) (free_place (fields + 1) number)
    (agree_below_at (λ n. nat_le (free_place fields n) (free_place (fields + 1) n)) (λ _. true) 9 number
    (agree_below_at rises_with (λ _. true) 34 fields all_rise few) low)

some_more : (fields count number : ℕ) → fields + count ≤ 34 → number < 9 →
    free_place fields number ≤ free_place (fields + count) number
some_more fields zero number few low = (let is : fields + 0 ≡ fields = omega arith in rw is (omega arith))
some_more fields (suc count) number few low =
    let rest = some_more fields count number (omega (arith, few)) low in
    let last = one_more (fields + count) number (omega (arith, few)) low in
    let is : fields + suc count ≡ fields + count + 1 = omega arith in
    rw is (omega (arith, rest, last))

with_more : (few more number : ℕ) → few ≤ more → more ≤ 34 → number < 9 →
    free_place few number ≤ free_place more number
with_more few more number less most low =
    let is : few + (more - few) ≡ more = omega (arith, less) in
    subst (λ (n : ℕ). free_place few number ≤ free_place n number) is
    (some_more few (more - few) number (omega (arith, less, most)) low)

-- ---- the ends

voices_rise : (few more : ℕ) → few ≤ more → voices_end few ≤ voices_end more
voices_rise few more less = omega (arith, less)

others_rise : (few more one two : ℕ) → few ≤ more → more ≤ 34 → one ≤ two → two ≤ 9 →
    others_end few one ≤ others_end more two
others_rise few more one two less most behind nine = elim (cases_lt 0 one) [
  | inl some ↦
      let first = with_more few more (one - 1) less most (omega (arith, some, behind, nine)) in
      let second = in_step (cases_lt (one - 1) (two - 1)) in
      rw (others_end_is few one some, others_end_is more two (omega (arith, some, behind)))
      (omega (arith, first, second))
  | inr none ↦ let is : one ≡ 0 = omega (arith, none) in rw is (omega arith)
]
  where
    in_step : (one - 1 < two - 1) ⊎ (two - 1 ≤ one - 1) → free_place more (one - 1) ≤ free_place more (two - 1)
    in_step (inl order) =
        let front = in_order more (one - 1) (two - 1) (omega (arith, most)) order (omega (arith, nine, order)) in
        omega (arith, front)
    in_step (inr last) = let is : one - 1 ≡ two - 1 = omega (arith, last, behind) in rw is (omega arith)

both_rise : (a b c d : ℕ) → a ≤ c → b ≤ d → max a b ≤ max c d
both_rise a b c d first second = omega (arith, first, second)

-- ---- all of it

module _ (one two : ℕ → Bool) (more : (condition : ℕ) → one condition ≡ true → two condition ≡ true) where
  fields_rise : field_count one ≤ field_count two
  unfolding voice_labels
  fields_rise = stand_more one two more voice_rows

  counts_of_others_rise : other_count one ≤ other_count two
  unfolding other_labels
  counts_of_others_rise = stand_more one two more _

  bytes_rise : (label : ℕ) → has_byte one label ≡ true → has_byte two label ≡ true
  unfolding has_byte
  bytes_rise label there = stands_rises one two more (asks label) there

  funk_rises : funk_place one ≤ funk_place two
  unfolding funk_place
  funk_rises =
      let fields = fields_rise in
      both_rise (voices_end (field_count one)) (others_end (field_count one) (other_count one))
      (voices_end (field_count two)) (others_end (field_count two) (other_count two))
      (voices_rise (field_count one) (field_count two) fields)
      (others_rise (field_count one) (field_count two) (other_count one) (other_count two) fields (few_fields two)
      counts_of_others_rise (few_others two))

pub counts_rise : CountsRise
counts_rise one two more =
    let front = funk_rises one two more in
    let all = counts_all two in
    elim (cases_Bool (has_byte one 111)) [
      | inl both ↦
          rw (counts_funk one both, counts_funk two (bytes_rise one two more 111 both)) (omega (arith, front))
      | inr none ↦ rw (counts_none one none) (omega (arith, front, all))
    ]

-- and there are 61 where none holds
fewest : variable_count (λ condition. false) ≡ 61
unfolding voice_rows shared_rows asks has_byte voice_labels other_labels free_places funk_place variable_count
fewest = refl

pub counts_are_no_fewer : CountsAreNoFewer
counts_are_no_fewer holds =
    let least = fewest in
    let rise = counts_rise (λ condition. false) holds (λ condition none. absurd (cc)) in
    omega (arith, least, rise)
