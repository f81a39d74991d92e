-- The least and the greatest of the numbers that a song asks for, with half tones and without.
use Rattle.std.proofs.Common.{ℕ, ◌+◌, ◌≤◌, inl, inr, refl, arith}
use Rattle.song_model.specs.declared.features.Feature.TheVariants.{NoteDependent}
use Rattle.song_model.specs.declared.songs.Song.{Song}
use Rattle.play_model.specs.Features.{HasFeature}
use Rattle.asked_numbers.specs.Numbers.{IsSoundedNumber, IsAskedNumber, sounded, half_tone_from, half_tone_to}
use Rattle.asked_numbers.specs.Numbers.{IsLastNumber}
use Rattle.asked_numbers.specs.Range.{IsNumberRange}
use Rattle.asked_numbers.proofs.Laws.{AreEnds, sounds_alone}
use Rattle.number_range.specs.declared.sets.NumberSet.{NumberSet}
use Rattle.number_range.specs.Sets.{Has, IsSetOf, HasSome}

pub half_tone_ends : {set : NumberSet} (song : Song) (last : ℕ) → HasFeature song NoteDependent →
    IsSetOf (IsLastNumber song) set → Has set last → ((n : ℕ) → Has set n → n ≤ last) → AreEnds song 0 (last + 1)
half_tone_ends {set} song last depends are has most = record {
  least_asked = half_tone_from depends (inl refl);
  greatest_asked = half_tone_to last depends ((are.each last).0 has) refl;
  each = λ n asked. (omega arith, up_to n asked);
}
  where
    up_to : (n : ℕ) → IsAskedNumber song n → n ≤ last + 1
    up_to n (sounded h) = let small = most n ((are.each n).1 (inr h)) in omega (arith, small)
    up_to n (half_tone_from on h) = let small = most n ((are.each n).1 h) in omega (arith, small)
    up_to n (half_tone_to before on h is) = let small = most before ((are.each before).1 h) in omega (arith, small, is)

pub sounded_ends : {set : NumberSet} (song : Song) (least greatest : ℕ) → ¬ HasFeature song NoteDependent →
    IsSetOf (IsSoundedNumber song) set → Has set least → Has set greatest →
    ((n : ℕ) → Has set n → least ≤ n) → ((n : ℕ) → Has set n → n ≤ greatest) → AreEnds song least greatest
sounded_ends {set} song least greatest plain are first last low high = record {
  least_asked = sounded ((are.each least).0 first);
  greatest_asked = sounded ((are.each greatest).0 last);
  each = λ n asked. (let h = (are.each n).1 (sounds_alone song n plain asked) in (low n h, high n h));
}

pub nothing_asked : {set : NumberSet} (song : Song) → ¬ HasFeature song NoteDependent →
    IsSetOf (IsSoundedNumber song) set → ¬ HasSome set → IsNumberRange song (record { first = 0; count = 0 })
nothing_asked song plain are none = record {
  has = λ n asked. absurd (none (record { n = n; has = (are.each n).1 (sounds_alone song n plain asked) }));
  first_is = λ some. absurd (some refl);
  last_is = λ last is some. absurd (some refl);
  none = λ empty. refl;
}
