-- The numbers as which notes sound: sums modulo 128 of notes and right sides, right sides alone, and notes alone.
use Rattle.std.proofs.Common.{◌≡◌, ℕ, ◌+◌, ◌%◌, ◌<◌, ◌≤◌, ◌⊎◌, Bool, true, false, nat_le, nat_lt, List, length}
use Rattle.std.proofs.Common.{inl, inr, refl, sym, ◌∙◌, arith}
use Rattle.std.proofs.lemmas.Bool.{cases_lt, cases_eq}
use Rattle.std.proofs.lemmas.Bool.Decides.{nat_tests}
use Rattle.std.proofs.lemmas.List.{get_or_past}
use Rattle.song_model.specs.declared.tables.TableName.TheVariants.{Wave}
use Rattle.song_model.specs.declared.features.Feature.TheVariants.{TonePorta, TieNote}
use Rattle.song_model.specs.declared.songs.Song.{Song}
use Rattle.song_model.specs.LookUp.{table_row}
use Rattle.play_model.specs.WaveStep.{wave_note}
use Rattle.play_model.specs.Reached.{IsReached}
use Rattle.play_model.specs.Features.{HasRow, IsAny, HasFeature}
use Rattle.song_facts.specs.Facts.{IsTone, HasSuchRow}
use Rattle.asked_numbers.specs.Numbers.{AsksBeforeNotes, IsSoundingNote, of_pattern, of_start, SlidesToNote, SetsNumber}
use Rattle.asked_numbers.specs.Numbers.{IsSoundedNumber, of_wave_row, of_slide}
use Rattle.usage.specs.Marks.{AreMarks}
use Rattle.usage.specs.Building.{SomeBelow}
use Rattle.number_range.specs.Sets.{IsSetOf, IsSum}
use Rattle.number_range.specs.Notes.{IsPlayedWithin, IsSoundingWithin}
use Rattle.number_range.specs.Numbers.{IsSideAt, IsSide, IsOwnNumber, IsSlidTo}
use Rattle.number_range.specs.declared.sets.NumberSet.{NumberSet}
use Rattle.number_range.proofs.MadeSets.{set_same}

-- ---- commands

pub tone_row : (song : Song) → HasSuchRow song IsTone → HasRow song 3 IsAny
tone_row song h = record { row = h.row; used = h.used; command_is = h.is_such; is_meant = tt }

pub row_tone : (song : Song) → HasRow song 3 IsAny → HasSuchRow song IsTone
row_tone song h = record { row = h.row; used = h.used; is_such = h.command_is }

-- a slide to a note has a parameter or none
pub slide_or_tie : (song : Song) → SlidesToNote song → HasFeature song TonePorta ⊎ HasFeature song TieNote
slide_or_tie song (inl h) = elim (cases_eq h.row.param 0) [
  | inl none ↦ inr (inl (record { row = h.row; used = h.used; command_is = h.command_is; is_meant = none }))
  | inr some ↦ inl (inl (record { row = h.row; used = h.used; command_is = h.command_is; is_meant = some }))
]
slide_or_tie song (inr h) = elim (cases_eq (table_row song Wave h.p).right 0) [
  | inl none ↦ inr (inr (record { p = h.p; reached = h.reached; command_is = h.command_is; is_meant = none }))
  | inr some ↦ inl (inr (record { p = h.p; reached = h.reached; command_is = h.command_is; is_meant = some }))
]

pub tie_slides : (song : Song) → HasFeature song TieNote → SlidesToNote song
tie_slides song (inl h) = inl (record { row = h.row; used = h.used; command_is = h.command_is; is_meant = tt })
tie_slides song (inr h) = inr (record { p = h.p; reached = h.reached; command_is = h.command_is; is_meant = tt })

-- ---- notes

played_sounds : (song : Song) (n : ℕ) → IsPlayedWithin song n → IsSoundingWithin song n
played_sounds song n p = record { note = p.note; sounds = of_pattern p.played; is = p.is }

pub sounding_with : {set : NumberSet} (song : Song) → AsksBeforeNotes song →
    IsSetOf (λ n. IsPlayedWithin song n ⊎ (n ≡ 0)) set → IsSetOf (IsSoundingWithin song) set
sounding_with song asks s =
    set_same (IsSoundingWithin song)
    (λ n w. elim w [
      | inl played ↦ played_sounds song n played
      | inr start ↦ record { note = 0; sounds = of_start refl asks; is = start }
    ])
    (λ n w. back n w w.sounds) s
  where
    back : (n : ℕ) (w : IsSoundingWithin song n) → IsSoundingNote song w.note → IsPlayedWithin song n ⊎ (n ≡ 0)
    back n w (of_pattern played) = inl (record { note = w.note; played = played; is = w.is })
    back n w (of_start zero asks) = inr (let is = w.is in omega (arith, is, zero))

pub sounding_without : {set : NumberSet} (song : Song) → ¬ AsksBeforeNotes song →
    IsSetOf (IsPlayedWithin song) set → IsSetOf (IsSoundingWithin song) set
sounding_without song never s =
    set_same (IsSoundingWithin song) (played_sounds song) (λ n w. back n w w.sounds) s
  where
    back : (n : ℕ) (w : IsSoundingWithin song n) → IsSoundingNote song w.note → IsPlayedWithin song n
    back n w (of_pattern played) = record { note = w.note; played = played; is = w.is }
    back n w (of_start zero asks) = absurd (never asks)

-- ---- right sides

pub sides_are : {set : NumberSet} (song : Song) (wave : List Bool) (own : Bool) (i : ℕ) →
    AreMarks (IsReached song Wave) wave → length wave ≤ i → IsSetOf (SomeBelow (IsSideAt song own) i) set →
    IsSetOf (IsSide song own) set
sides_are song wave own i marks end s =
    set_same (IsSide song own) (λ n some. record { p = some.k; at = some.stands })
    (λ n side. record { k = side.p; below = inside side.p side.at.sets; stands = side.at }) s
  where
    inside : (p : ℕ) → SetsNumber song p → p < i
    inside p sets = elim (cases_lt p (length wave)) [
      | inl stored ↦ omega arith
      | inr past ↦ absurd (let marked = (marks.each p).1 sets.step.reached in
          let none = get_or_past wave p false past in cc)
    ]

-- ---- numbers

-- what makes up the numbers
abbrev pub IsMadeUp : Song → NumberSet → ℕ → Type 0
IsMadeUp song notes n =
    (IsSum (IsSoundingWithin song) (IsSide song false) n ⊎ IsOwnNumber song notes n) ⊎ IsSlidTo song notes n

added_is : (right note : ℕ) → nat_le 0x80 right ≡ false → wave_note right note ≡ (note % 128 + right % 128) % 128
added_is right note low =
    let below : nat_lt right 0x80 ≡ true = grind (arith, nat_tests) in rw below (omega arith)

pub own_is : (right note : ℕ) → nat_le 0x80 right ≡ true → wave_note right note ≡ right % 128
own_is right note high = let above : nat_lt right 0x80 ≡ false = grind (arith, nat_tests) in rw above refl

pub sounded_are : {set : NumberSet} (song : Song) (notes : NumberSet) → IsSetOf (IsSoundingWithin song) notes →
    IsSetOf (IsMadeUp song notes) set → IsSetOf (IsSoundedNumber song) set
sounded_are song notes are s = set_same (IsSoundedNumber song) to from s
  where
    sum_to : (n : ℕ) → IsSum (IsSoundingWithin song) (IsSide song false) n → IsSoundedNumber song n
    sum_to n sum =
        let w = sum.is_first in
        let side = sum.is_second in
        of_wave_row side.p w.note side.at.sets w.sounds
        (sum.is ∙ rw (w.is, side.at.is) (sym (added_is (table_row song Wave side.p).right w.note side.at.own_is)))

    own_to : (n : ℕ) → IsOwnNumber song notes n → IsSoundedNumber song n
    own_to n (some, side) =
        let w = (are.each some.n).0 some.has in
        of_wave_row side.p w.note side.at.sets w.sounds
        (side.at.is ∙ sym (own_is (table_row song Wave side.p).right w.note side.at.own_is))

    slid_to : (n : ℕ) → IsSlidTo song notes n → IsSoundedNumber song n
    slid_to n (slides, has) = let w = (are.each n).0 has in of_slide w.note slides w.sounds w.is

    to : (n : ℕ) → IsMadeUp song notes n → IsSoundedNumber song n
    to n (inl (inl sum)) = sum_to n sum
    to n (inl (inr own)) = own_to n own
    to n (inr slid) = slid_to n slid

    within : (note : ℕ) → IsSoundingNote song note → IsSoundingWithin song (note % 128)
    within note sounds = record { note = note; sounds = sounds; is = refl }

    of_row : (n p note : ℕ) (own : Bool) → nat_le 0x80 (table_row song Wave p).right ≡ own → SetsNumber song p →
        IsSoundingNote song note → n ≡ wave_note (table_row song Wave p).right note → IsMadeUp song notes n
    of_row n p note true high sets sounds is =
        inl (inr (
          record { n = note % 128; has = (are.each (note % 128)).1 (within note sounds) },
          record {
            p = p;
            at = record {
              sets = sets;
              own_is = high;
              is = is ∙ own_is (table_row song Wave p).right note high;
            };
          },
        ))
    of_row n p note false low sets sounds is =
        inl (inl (record {
          first = note % 128;
          second = (table_row song Wave p).right % 128;
          is_first = within note sounds;
          is_second = record { p = p; at = record { sets = sets; own_is = low; is = refl } };
          is = is ∙ added_is (table_row song Wave p).right note low;
        }))

    from : (n : ℕ) → IsSoundedNumber song n → IsMadeUp song notes n
    from n (of_wave_row p note sets sounds is) =
        of_row n p note (nat_le 0x80 (table_row song Wave p).right) refl sets sounds is
    from n (of_slide note slides sounds is) =
        inr (slides, rw is ((are.each (note % 128)).1 (within note sounds)))
