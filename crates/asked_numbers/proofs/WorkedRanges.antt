-- The ranges of small songs, from the numbers that they ask for.
use Rattle.std.specs.Prelude.{nat_lt}
use Rattle.std.proofs.Common.{◌≡◌, ◌≢◌, ℕ, zero, suc, ◌+◌, ◌%◌, ◌<◌, ◌≤◌, false, List, [], ◌∷◌, All, Contains}
use Rattle.std.proofs.Common.{refl, arith, ap}
use Rattle.std.proofs.lemmas.Bool.Decides.{nat_tests}
use Rattle.std.proofs.lemmas.List.Elements.{All-nil, All-cons, All-contains}
use Rattle.song_model.specs.declared.songs.Song.{Song}
use Rattle.song_model.specs.Silence.{empty_song}
use Rattle.play_model.specs.WorkedSongs.{one_note, low_note}
use Rattle.play_model.specs.WaveStep.{wave_note}
use Rattle.asked_numbers.specs.WorkedNumbers.{AsksFor, with_wave}
use Rattle.asked_numbers.specs.declared.range.NumberRange.{NumberRange}
use Rattle.asked_numbers.specs.Range.{IsNumberRange}
use Rattle.asked_numbers.specs.WorkedRange.{range, two_notes, half_tones, highest_tones}
use Rattle.asked_numbers.specs.WorkedRange.{RangesAreWorked, RangesAreDenied, AddedNumbersAreWorked}
use Rattle.asked_numbers.proofs.Ranges.{range_is, songs_have_one_range}
use Rattle.asked_numbers.proofs.WorkedWaves.{wave_row}
use Rattle.asked_numbers.proofs.WorkedNumbers.{numbers_are_worked, highest_from_note}

-- numbers from one to another
abbrev IsWithin : ℕ → ℕ → ℕ → Type 0
IsWithin least greatest n = (least ≤ n) × (n ≤ greatest)

within : (least greatest n : ℕ) (numbers : List ℕ) → least ≤ n → n ≤ greatest → All (IsWithin least greatest) numbers →
    All (IsWithin least greatest) (n ∷ numbers)
within least greatest n numbers low high rest = All-cons (IsWithin least greatest) n numbers (low, high) rest

-- a song that asks for these numbers, of which these are the least and the greatest
from_ends : (song : Song) (numbers : List ℕ) (least greatest count : ℕ) → AsksFor song numbers →
    Contains numbers least → Contains numbers greatest → All (IsWithin least greatest) numbers →
    least + count ≡ greatest + 1 → IsNumberRange song (range least count)
from_ends song numbers least greatest count asks begins ends all is =
    range_is song least greatest (range least count)
    (record {
      least_asked = (asks least).1 begins;
      greatest_asked = (asks greatest).1 ends;
      each = λ n asked. All-contains (IsWithin least greatest) numbers n all ((asks n).0 asked);
    }) refl is

-- a song that asks for one number
one_number : (song : Song) (number : ℕ) → AsksFor song (number ∷ []) → IsNumberRange song (range number 1)
one_number song number asks =
    from_ends song (number ∷ []) number number 1 asks (0, omega arith, refl) (0, omega arith, refl)
    (within number number number [] (omega arith) (omega arith) (All-nil (IsWithin number number))) refl

-- a song that asks for two
two_numbers : (song : Song) (least greatest count : ℕ) → AsksFor song (least ∷ greatest ∷ []) → least ≤ greatest →
    least + count ≡ greatest + 1 → IsNumberRange song (range least count)
two_numbers song least greatest count asks order is =
    from_ends song (least ∷ greatest ∷ []) least greatest count asks (0, omega arith, refl) (1, omega arith, refl)
    (within least greatest least (greatest ∷ []) (omega arith) order
    (within least greatest greatest [] order (omega arith) (All-nil (IsWithin least greatest)))) is

-- a song that asks for the ends of two half tones
four_numbers : (song : Song) (last : ℕ) → 1 ≤ last → AsksFor song (0 ∷ 1 ∷ last ∷ (last + 1) ∷ []) →
    IsNumberRange song (range 0 (last + 2))
four_numbers song last high asks =
    from_ends song (0 ∷ 1 ∷ last ∷ (last + 1) ∷ []) 0 (last + 1) (last + 2) asks (0, omega arith, refl)
    (3, omega arith, refl)
    (within 0 (last + 1) 0 (1 ∷ last ∷ (last + 1) ∷ []) (omega arith) (omega arith)
    (within 0 (last + 1) 1 (last ∷ (last + 1) ∷ []) (omega arith) (omega arith)
    (within 0 (last + 1) last ((last + 1) ∷ []) (omega arith) (omega arith)
    (within 0 (last + 1) (last + 1) [] (omega arith) (omega arith) (All-nil (IsWithin 0 (last + 1)))))))
    (omega arith)

two_range : IsNumberRange two_notes (range 48 3)
two_range = two_numbers two_notes 48 50 3 numbers_are_worked.notes.transposed (omega arith) refl

low_range : IsNumberRange low_note (range 0 113)
low_range = two_numbers low_note 0 112 113 numbers_are_worked.notes.low (omega arith) refl

half_tone_range : IsNumberRange half_tones (range 0 50)
half_tone_range = four_numbers half_tones 48 (omega arith) numbers_are_worked.half_tones.from_note

nowhere : (n : ℕ) → ¬ Contains [] n
nowhere n (k, inside, at) = omega (arith, inside)

empty_range : IsNumberRange empty_song (range 0 0)
empty_range = record {
  has = λ n asked. absurd (nowhere n ((numbers_are_worked.empty n).0 asked));
  first_is = λ some. absurd (some refl);
  last_is = λ last is some. absurd (some refl);
  none = λ empty. refl;
}

own_is : (right number : ℕ) → 0x80 < right → right % 128 ≡ number → wave_note right 48 ≡ number
own_is right number above wraps =
    let high : nat_lt right 0x80 ≡ false = grind (arith, nat_tests, above) in rw (high, wraps) refl

-- the song of one note with a number of its own in its wave table
own_range : (right number : ℕ) → 0x80 < right → right % 128 ≡ number →
    IsNumberRange (with_wave 0x41 right 0) (range number 1)
own_range right number above wraps =
    one_number (with_wave 0x41 right 0) number
    (wave_row 0x41 right 0 number refl (omega arith) refl (λ e. omega (arith, e, above)) (λ e. omega (arith, e))
    (own_is right number above wraps))

pub ranges_are_worked : RangesAreWorked
ranges_are_worked = record {
  one = one_number one_note 48 numbers_are_worked.notes.one;
  two = two_range;
  empty = empty_range;
  last = own_range 0xDF 95 (omega arith) refl;
  first_silent = own_range 0xE0 96 (omega arith) refl;
  last_silent = own_range 0xFF 127 (omega arith) refl;
  low = low_range;
  half_tones = half_tone_range;
  all = four_numbers highest_tones 127 (omega arith) highest_from_note;
  from = record { from = omega arith; below = omega arith };
  to = record { from = omega arith; below = omega arith };
}

-- ---- denials

other : (song : Song) (a b : NumberRange) → IsNumberRange song a → a.count ≢ b.count → ¬ IsNumberRange song b
other song a b is differs claimed =
    differs (ap (λ (r : NumberRange). r.count) (songs_have_one_range song a b is claimed))

elsewhere : (song : Song) (a b : NumberRange) → IsNumberRange song a → a.first ≢ b.first → ¬ IsNumberRange song b
elsewhere song a b is differs claimed =
    differs (ap (λ (r : NumberRange). r.first) (songs_have_one_range song a b is claimed))

pub ranges_are_denied : RangesAreDenied
ranges_are_denied = record {
  first_short = other two_notes (range 48 3) (range 49 2) two_range (λ e. omega (arith, e));
  last_short = other two_notes (range 48 3) (range 48 2) two_range (λ e. omega (arith, e));
  not_from = other half_tones (range 0 50) (range 48 2) half_tone_range (λ e. omega (arith, e));
  not_below = other half_tones (range 0 50) (range 0 2) half_tone_range (λ e. omega (arith, e));
  first_long = other two_notes (range 48 3) (range 47 4) two_range (λ e. omega (arith, e));
  last_long = other two_notes (range 48 3) (range 48 4) two_range (λ e. omega (arith, e));
  sounding_alone = other low_note (range 0 113) (range 0 96) low_range (λ e. omega (arith, e));
  empty_long = other empty_song (range 0 0) (range 0 1) empty_range (λ e. omega (arith, e));
  empty_elsewhere = elsewhere empty_song (range 0 0) (range 1 0) empty_range (λ e. omega (arith, e));
  before = λ inside. (let from = inside.from in omega (arith, from));
  behind = λ inside. (let below = inside.below in omega (arith, below));
}

-- ---- songs that ask for no others than another one

pub added_numbers_are_worked : AddedNumbersAreWorked
added_numbers_are_worked = record {
  itself = λ n asked. asked;
  one_of_two = λ n asked. (numbers_are_worked.notes.transposed n).1 (first n ((numbers_are_worked.notes.one n).0 asked));
  none = λ n asked. absurd (nowhere n ((numbers_are_worked.empty n).0 asked));
  another = λ adds. not_one
      ((numbers_are_worked.notes.one 50).0
      (adds 50 ((numbers_are_worked.notes.transposed 50).1 second)));
  first = λ adds. nowhere 48
      ((numbers_are_worked.empty 48).0 (adds 48 ((numbers_are_worked.notes.one 48).1 alone)));
}
  where
    one : List ℕ
    one = 48 ∷ []

    two : List ℕ
    two = 48 ∷ 50 ∷ []

    alone : Contains one 48
    alone = (0, omega arith, refl)

    second : Contains two 50
    second = (1, omega arith, refl)

    first : (n : ℕ) → Contains one n → Contains two n
    first n (zero, inside, is) = (zero, omega arith, is)
    first n (suc k, inside, is) = absurd (omega (arith, inside))

    not_one : ¬ Contains one 50
    not_one (zero, inside, is) = omega (arith, is)
    not_one (suc k, inside, is) = omega (arith, inside)
