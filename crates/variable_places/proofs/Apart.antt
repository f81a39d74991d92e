-- No two variables that have a byte have the same place: bytes of voices have fields, and the others none of these; and
-- the funk tempos stand behind both.
use Rattle.std.proofs.Common.{◌≡◌, ℕ, ◌+◌, ◌*◌, ◌<◌, ◌≤◌, ◌⊎◌, Bool, get_or, sym, ap, ◌∙◌, inl, inr, arith}
use Rattle.std.proofs.lemmas.Bool.{cases_lt}
use Rattle.variable_places.specs.Places.{voice_of, base_of, voice_labels, field_count, other_labels, other_count}
use Rattle.variable_places.specs.Places.{own_place, field_at, free_place, funk_place, place_of}
use Rattle.variable_places.specs.PlaceLaws.{PlacesAreApart}
use Rattle.variable_places.proofs.FreeOrder.{is_free, in_order}
use Rattle.variable_places.proofs.Owners.{few_fields, few_others, IsOwn, IsOther, IsFunk, kinds}
use Rattle.variable_places.proofs.Within.{voices_are_three, own_in_front, other_in_front}

-- a place of a voice's byte says its field and its voice
field_is : (field voice : ℕ) → voice < 3 → field_at (own_place field voice) ≡ field
field_is field voice three = omega (arith, three)

voice_is : (field voice other : ℕ) → own_place field voice ≡ own_place field other → voice ≡ other
voice_is field voice other same = omega (arith, same)

label_is : (label : ℕ) → label ≡ base_of label + 7 * voice_of label
label_is label = omega arith

owns_apart : (holds : ℕ → Bool) (one two : ℕ) → IsOwn holds one → IsOwn holds two →
    place_of holds one ≡ place_of holds two → one ≡ two
owns_apart holds one two first second same =
    let places : own_place first.field (voice_of one) ≡ own_place second.field (voice_of two) =
    sym first.place_is ∙ (same ∙ second.place_is) in
    let fields : first.field ≡ second.field =
    sym (field_is first.field (voice_of one) (voices_are_three one))
    ∙ (ap field_at places ∙ field_is second.field (voice_of two) (voices_are_three two)) in
    let voices : voice_of one ≡ voice_of two =
    voice_is second.field (voice_of one) (voice_of two)
    (ap (λ field. own_place field (voice_of one)) (sym fields) ∙ places) in
    let bases : base_of one ≡ base_of two =
    sym first.base_is ∙ (ap (λ field. get_or (voice_labels holds) field 0) fields ∙ second.base_is) in
    joined one two bases voices
  where
    joined : (one two : ℕ) → base_of one ≡ base_of two → voice_of one ≡ voice_of two → one ≡ two
    joined one two bases voices =
        label_is one ∙ (ap (λ base. base + 7 * voice_of one) bases
        ∙ (ap (λ voice. base_of two + 7 * voice) voices ∙ sym (label_is two)))

own_and_other : (holds : ℕ → Bool) (one two : ℕ) → IsOwn holds one → IsOther holds two →
    place_of holds one ≡ place_of holds two → one ≡ two
own_and_other holds one two own other same =
    let field : field_at (place_of holds one) ≡ own.field =
    ap field_at own.place_is ∙ field_is own.field (voice_of one) (voices_are_three one) in
    let fields = few_fields holds in
    let others = few_others holds in
    let number = other.few in
    let free = is_free (field_count holds) other.number (omega (arith, fields)) (omega (arith, others, number)) in
    let there : field_at (place_of holds one) ≡ field_at (free_place (field_count holds) other.number) =
    ap field_at (same ∙ other.place_is) in
    let few = own.few in
    absurd (apart (field_at (place_of holds one)) (field_at (free_place (field_count holds) other.number)) own.field
    (field_count holds) field there few free)
  where
    apart : (here there field fields : ℕ) → here ≡ field → here ≡ there → field < fields → fields ≤ there → ⊥
    apart here there field fields is same few free = omega (arith, is, same, few, free)

others_apart : (holds : ℕ → Bool) (one two : ℕ) → IsOther holds one → IsOther holds two →
    place_of holds one ≡ place_of holds two → one ≡ two
others_apart holds one two first second same =
    sym first.label_is
    ∙ (ap (λ number. get_or (other_labels holds) number 0)
    (numbers first.number second.number first.few second.few places)
    ∙ second.label_is)
  where
    places : free_place (field_count holds) first.number ≡ free_place (field_count holds) second.number
    places = sym first.place_is ∙ (same ∙ second.place_is)

    in_front : (i j : ℕ) → i < j → j < other_count holds →
        free_place (field_count holds) i < free_place (field_count holds) j
    in_front i j order low =
        let fields = few_fields holds in
        let others = few_others holds in
        in_order (field_count holds) i j (omega (arith, fields)) order (omega (arith, others, low))

    no_less : (i j : ℕ) → i < j → j < other_count holds →
        free_place (field_count holds) i ≡ free_place (field_count holds) j → ⊥
    no_less i j order low same = let less = in_front i j order low in omega (arith, less, same)

    numbers : (i j : ℕ) → i < other_count holds → j < other_count holds →
        free_place (field_count holds) i ≡ free_place (field_count holds) j → i ≡ j
    numbers i j few less same = elim (cases_lt i j) [
      | inl order ↦ absurd (no_less i j order less same)
      | inr behind ↦ elim (cases_lt j i) [
        | inl order ↦ absurd (no_less j i order few (sym same))
        | inr front ↦ omega (arith, behind, front)
      ]
    ]

-- what stands in front of the funk tempos is none of them
not_funk : (holds : ℕ → Bool) (one two : ℕ) → place_of holds one < funk_place holds → IsFunk holds two →
    place_of holds one ≡ place_of holds two → one ≡ two
not_funk holds one two front funk same = let place = funk.place_is in absurd (omega (arith, front, place, same))

funks_apart : (holds : ℕ → Bool) (one two : ℕ) → IsFunk holds one → IsFunk holds two →
    place_of holds one ≡ place_of holds two → one ≡ two
funks_apart holds one two first second same =
    let here = first.place_is in
    let there = second.place_is in
    let is = first.label_is in
    let other = second.label_is in
    omega (arith, same, here, there, is, other)

pub places_are_apart : PlacesAreApart
places_are_apart holds one two low less first second same =
    by_owners (kinds holds one low first) (kinds holds two less second)
  where
    by_owners : IsOwn holds one ⊎ (IsOther holds one ⊎ IsFunk holds one) →
        IsOwn holds two ⊎ (IsOther holds two ⊎ IsFunk holds two) → one ≡ two
    by_owners (inl own) (inl its) = owns_apart holds one two own its same
    by_owners (inl own) (inr (inl other)) = own_and_other holds one two own other same
    by_owners (inl own) (inr (inr funk)) = not_funk holds one two (own_in_front holds one own) funk same
    by_owners (inr (inl other)) (inl own) = sym (own_and_other holds two one own other (sym same))
    by_owners (inr (inl other)) (inr (inl its)) = others_apart holds one two other its same
    by_owners (inr (inl other)) (inr (inr funk)) = not_funk holds one two (other_in_front holds one other) funk same
    by_owners (inr (inr funk)) (inl own) = sym (not_funk holds two one (own_in_front holds two own) funk (sym same))
    by_owners (inr (inr funk)) (inr (inl other)) =
        sym (not_funk holds two one (other_in_front holds two other) funk (sym same))
    by_owners (inr (inr funk)) (inr (inr its)) = funks_apart holds one two funk its same
