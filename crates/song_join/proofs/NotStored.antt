-- The first thing that isn't stored.
use Rattle.std.proofs.Common.{◌≡◌, ℕ, ◌<◌, ◌≤◌, Bool, true, false, List, length, get_or, sym}
use Rattle.std.proofs.Common.{◌∙◌, subst, inl, inr, arith}
use Rattle.std.proofs.lemmas.Bool.{cases_lt}
use Rattle.std.proofs.lemmas.List.{get_or_past}
use Rattle.song_model.specs.declared.songs.Song.{Song}
use Rattle.song_model.specs.declared.tables.TableName.TheVariants.{Speed}
use Rattle.play_model.specs.Used.{IsUsedInstrument}
use Rattle.play_model.specs.Reached.{IsPointer}
use Rattle.usage.specs.Marks.{IsMarked, AreMarks}
use Rattle.song_join.specs.Loose.{song_of, IsLooseInstrument, IsLooseSpeed, IsFirstPlace, IsLooseIn, NothingIsLoose}
use Rattle.song_join.specs.Parts.{IsFirstAbove, NoneAbove}

-- past the last mark none is set
pub none_above : (marks : List Bool) (stored k : ℕ) → length marks ≤ k →
    ((n : ℕ) → stored < n → n < k → ¬ IsMarked marks n) → NoneAbove marks stored
none_above marks stored k end none n above marked = elim (cases_lt n k) [
  | inl there ↦ none n above there marked
  | inr past ↦ (let e : get_or marks n false ≡ false = get_or_past marks n false (omega arith) in
      let same : true ≡ false = sym marked ∙ e in cc)
]

-- ---- marks of what is used

pub instrument_loose : (song : Song) (marks : List Bool) (n : ℕ) → AreMarks (IsUsedInstrument song) marks →
    IsFirstAbove marks (length song.instruments) n →
    IsLooseInstrument song n × ((k : ℕ) → k < n → ¬ IsLooseInstrument song k)
instrument_loose song marks n are first = (
  record { used = (are.each n).0 first.marked; above = first.above },
  λ k low loose. first.first k low loose.above ((are.each k).1 loose.used),
)

pub no_instrument_loose : (song : Song) (marks : List Bool) → AreMarks (IsUsedInstrument song) marks →
    NoneAbove marks (length song.instruments) → (n : ℕ) → ¬ IsLooseInstrument song n
no_instrument_loose song marks are none n loose = none n loose.above ((are.each n).1 loose.used)

pub speed_loose : (song : Song) (marks : List Bool) (n : ℕ) → AreMarks (IsPointer song Speed) marks →
    IsFirstAbove marks (length song.speed) n →
    IsLooseSpeed song n × ((k : ℕ) → k < n → ¬ IsLooseSpeed song k)
speed_loose song marks n are first = (
  record { pointer = (are.each n).0 first.marked; above = first.above },
  λ k low loose. first.first k low loose.above ((are.each k).1 loose.pointer),
)

pub no_speed_loose : (song : Song) (marks : List Bool) → AreMarks (IsPointer song Speed) marks →
    NoneAbove marks (length song.speed) → (n : ℕ) → ¬ IsLooseSpeed song n
no_speed_loose song marks are none n loose = none n loose.above ((are.each n).1 loose.pointer)

-- ---- song by song

pub first_song_loose : (IsLoose : Song → ℕ → Type 0) (first second : Song) (n : ℕ) → IsLoose first n →
    ((k : ℕ) → k < n → ¬ IsLoose first k) → IsFirstPlace (IsLooseIn IsLoose first second) 1 n
first_song_loose IsLoose first second n loose below = record {
  is_such = record { number = record { first = omega arith; last = omega arith }; loose = loose };
  before = λ i j low such. let least = such.number.first in omega arith;
  below = λ j low such. below j low such.loose;
}

pub second_song_loose : (IsLoose : Song → ℕ → Type 0) (first second : Song) (n : ℕ) → IsLoose second n →
    ((k : ℕ) → k < n → ¬ IsLoose second k) → ((k : ℕ) → ¬ IsLoose first k) →
    IsFirstPlace (IsLooseIn IsLoose first second) 2 n
second_song_loose IsLoose first second n loose below none = record {
  is_such = record { number = record { first = omega arith; last = omega arith }; loose = loose };
  before =
      λ i j low such.
      let least = such.number.first in
      let one : i ≡ 1 = omega arith in
      none j (subst (λ (k : ℕ). IsLoose (song_of first second k) j) one such.loose);
  below = λ j low such. below j low such.loose;
}

-- where nothing is loose nothing is the first that is
pub none_is_first : (IsLoose : Song → ℕ → Type 0) (first second : Song) (a b : ℕ) →
    NothingIsLoose IsLoose first second → IsFirstPlace (IsLooseIn IsLoose first second) a b → ⊥
none_is_first IsLoose first second a b none place =
    let least = place.is_such.number.first in
    let most = place.is_such.number.last in
    elim (cases_lt a 2) [
      | inl low ↦ (
          let one : a ≡ 1 = omega arith in
          none.first_song b (subst (λ (k : ℕ). IsLoose (song_of first second k) b) one place.is_such.loose))
      | inr high ↦ (
          let two : a ≡ 2 = omega arith in
          none.second_song b (subst (λ (k : ℕ). IsLoose (song_of first second k) b) two place.is_such.loose))
    ]
