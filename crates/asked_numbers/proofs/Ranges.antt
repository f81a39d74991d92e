-- Ranges of numbers that a song asks for, by their ends, and that a song has one.
use Rattle.std.specs.Prelude.{nat_lt}
use Rattle.std.proofs.Common.{◌≡◌, ◌≢◌, ℕ, zero, suc, ◌+◌, ◌%◌, ◌<◌, ◌≤◌, inl, inr, refl, sym, ◌∙◌, subst, arith}
use Rattle.std.proofs.lemmas.Bool.{cases_eq, cond_both}
use Rattle.song_model.specs.declared.songs.Song.{Song}
use Rattle.song_model.specs.declared.tables.TableName.TheVariants.{Wave}
use Rattle.song_model.specs.LookUp.{table_row}
use Rattle.play_model.specs.WaveStep.{wave_note}
use Rattle.asked_numbers.specs.Numbers.{IsSoundedNumber, of_wave_row, of_slide, IsLastNumber, IsAskedNumber, sounded}
use Rattle.asked_numbers.specs.Numbers.{half_tone_from, half_tone_to}
use Rattle.asked_numbers.specs.declared.range.NumberRange.{NumberRange}
use Rattle.asked_numbers.specs.Range.{IsNumberRange}
use Rattle.asked_numbers.specs.RangeLaws.{SongsHaveOneRange, RangesLieInTheTable}

-- ---- asked numbers are small

wave_note_small : (right note : ℕ) → wave_note right note < 128
wave_note_small right note =
    cond_both (nat_lt right 0x80) ((right + note) % 128) (right % 128) (λ n. n < 128) (λ h. omega arith)
    (λ h. omega arith)

sounded_small : (song : Song) (n : ℕ) → IsSoundedNumber song n → n < 128
sounded_small song n (of_wave_row p note sets sounds is) = rw is (wave_note_small (table_row song Wave p).right note)
sounded_small song n (of_slide note slides sounds is) = omega (arith, is)

last_small : (song : Song) (n : ℕ) → IsLastNumber song n → n < 128
last_small song n (inl none) = omega (arith, none)
last_small song n (inr h) = sounded_small song n h

pub asked_small : (song : Song) (n : ℕ) → IsAskedNumber song n → n ≤ 128
asked_small song n (sounded h) = let small = sounded_small song n h in omega (arith, small)
asked_small song n (half_tone_from depends h) = let small = last_small song n h in omega (arith, small)
asked_small song n (half_tone_to last depends h is) = let small = last_small song last h in omega (arith, small, is)

-- ---- ends

-- the least and the greatest of the numbers that the song asks for
pub record AreEnds (song : Song) (least greatest : ℕ) : Type 0 where
  pub least_asked : IsAskedNumber song least
  pub greatest_asked : IsAskedNumber song greatest
  pub each : (n : ℕ) → IsAskedNumber song n → (least ≤ n) × (n ≤ greatest)

pub range_is : (song : Song) (least greatest : ℕ) (range : NumberRange) → AreEnds song least greatest →
    range.first ≡ least → range.first + range.count ≡ greatest + 1 → IsNumberRange song range
range_is song least greatest range ends first end = record {
  has = λ n asked. (
      let inside = ends.each n asked in
      record { from = omega (arith, first, inside.0); below = omega (arith, end, inside.1) });
  first_is = λ some. subst (IsAskedNumber song) (sym first) ends.least_asked;
  last_is = λ last is some. subst (IsAskedNumber song) (omega (arith, end, is)) ends.greatest_asked;
  none = λ empty. absurd (let order = ends.each least ends.least_asked in omega (arith, empty, order.1, first, end));
}

-- ---- one range

same_range : (a b : NumberRange) → a.first ≡ b.first → a.count ≡ b.count → a ≡ b
same_range a b first count = rw (first, count) refl

-- the last number of a range that has one
record HasLast (range : NumberRange) : Type 0 where
  last : ℕ
  is : range.first + range.count ≡ last + 1

has_last : (range : NumberRange) → range.count ≢ 0 → HasLast range
has_last range some = by range.count refl
  where
    by : (count : ℕ) → range.count ≡ count → HasLast range
    by zero is = absurd (some is)
    by (suc count) is = record { last = range.first + count; is = omega (arith, is) }

-- a range with no numbers is of a song that asks for none
both_empty : (song : Song) (a b : NumberRange) → IsNumberRange song a → IsNumberRange song b → a.count ≡ 0 →
    b.count ≡ 0
both_empty song a b p q empty = elim (cases_eq b.count 0) [
  | inl none ↦ none
  | inr some ↦ absurd (let inside = p.has b.first (q.first_is some) in
      let from = inside.from in let below = inside.below in omega (arith, empty, from, below))
]

not_longer : (song : Song) (a b : NumberRange) → IsNumberRange song a → IsNumberRange song b → b.count ≢ 0 →
    b.first + b.count ≤ a.first + a.count
not_longer song a b p q some =
    let end = has_last b some in
    let is = end.is in
    let below = (p.has end.last (q.last_is end.last is some)).below in omega (arith, below, is)

pub songs_have_one_range : SongsHaveOneRange
songs_have_one_range song a b p q = elim (cases_eq a.count 0) [
  | inl empty ↦ (
      let none = both_empty song a b p q empty in
      same_range a b (p.none empty ∙ sym (q.none none)) (empty ∙ sym none))
  | inr some ↦ (
      let also : b.count ≢ 0 = λ none. some (both_empty song b a q p none) in
      let low = (p.has b.first (q.first_is also)).from in
      let low_too = (q.has a.first (p.first_is some)).from in
      let high = not_longer song a b p q also in let high_too = not_longer song b a q p some in
      same_range a b (omega (arith, low, low_too)) (omega (arith, low, low_too, high, high_too)))
]

pub ranges_lie_in_the_table : RangesLieInTheTable
ranges_lie_in_the_table song range is = elim (cases_eq range.count 0) [
  | inl empty ↦ (let first = is.none empty in omega (arith, empty, first))
  | inr some ↦ (
      let end = has_last range some in
      let at = end.is in
      let small = asked_small song end.last (is.last_is end.last at some) in omega (arith, at, small))
]
