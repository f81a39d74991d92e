-- The notes of patterns, one pattern after another.
use Rattle.std.proofs.Common.{◌≡◌, ℕ, ◌+◌, ◌<◌, ◌≤◌, List, [], length, replicate, get_or, set}
use Rattle.std.proofs.Common.{inl, inr, sym, ◌∙◌, arith}
use Rattle.std.proofs.lemmas.Bool.{cases_lt, cases_eq}
use Rattle.std.proofs.lemmas.List.{get_or-replicate, get_or_past, get_or_read, get_or-set_same, get_or-set_other}
use Rattle.std.proofs.lemmas.List.{length-replicate, length-set}
use Rattle.base.proofs.Laws.{none_of_nil}
use Rattle.song_model.specs.declared.rows.Row.{Row}
use Rattle.song_model.specs.declared.songs.Song.{Song}
use Rattle.song_model.specs.Endless.{IsPatternByte}
use Rattle.song_model.specs.LookUp.{pattern_at}
use Rattle.number_range.specs.Sets.{IsSetOf, IsNone}
use Rattle.number_range.specs.Notes.{HasNote, HaveNote, no_numbers, ArePatternNotes}
use Rattle.number_range.specs.declared.sets.NumberSet.{NumberSet}
use Rattle.number_range.proofs.MadeSets.{set_same, set_none}

-- the notes of pattern k, if it is one of the first n
abbrev pub IsFirstNote : Song → ℕ → ℕ → ℕ → Type 0
IsFirstNote song n k m = (k < n) × HaveNote (pattern_at song k) m

pub record AreFirstNotes (song : Song) (n : ℕ) (notes : List NumberSet) : Type 0 where
  pub count : length notes ≡ 208
  pub each : (k : ℕ) → IsPatternByte k → IsSetOf (IsFirstNote song n k) (get_or notes k no_numbers)

pub no_notes : (song : Song) (set : NumberSet) → IsSetOf IsNone set → AreFirstNotes song 0 (replicate 208 set)
no_notes song set none = record {
  count = length-replicate 208 set;
  each = λ k inside.
      rw (get_or-replicate 208 k set no_numbers inside)
      (set_none (IsFirstNote song 0 k) (λ m first. omega (arith, first.0)) none);
}

stored_at : (song : Song) (n : ℕ) (pattern : List Row) → n < length song.patterns →
    pattern ≡ get_or song.patterns n pattern → pattern_at song n ≡ pattern
unfolding pattern_at
stored_at song n pattern inside is = sym (get_or_read song.patterns n pattern inside is [])

pub more_notes : (song : Song) (n : ℕ) (notes : List NumberSet) (pattern : List Row) (new : NumberSet) →
    n < length song.patterns → length song.patterns ≤ 208 → pattern ≡ get_or song.patterns n pattern →
    AreFirstNotes song n notes → IsSetOf (HaveNote pattern) new → AreFirstNotes song (n + 1) (set notes n new)
more_notes song n notes pattern new inside limit is first notes_are = record {
  count = length-set notes n new ∙ first.count;
  each = λ k is_pattern. elim (cases_eq k n) [
    | inl here ↦ rw (here, get_or-set_same notes n new no_numbers (let count = first.count in omega arith))
        (set_same (IsFirstNote song (n + 1) n)
        (λ m has. (omega arith, rw (stored_at song n pattern inside is) has))
        (λ m has. rw (stored_at song n pattern inside is) at has.1) notes_are)
    | inr other ↦ rw (get_or-set_other notes n k new no_numbers other)
        (set_same (IsFirstNote song (n + 1) k) (λ m has. (omega (arith, has.0), has.1))
        (λ m has. (omega (arith, has.0, other), has.1)) (first.each k is_pattern))
  ];
}

pub all_notes : (song : Song) (n : ℕ) (notes : List NumberSet) → length song.patterns ≤ n →
    AreFirstNotes song n notes → ArePatternNotes song notes
unfolding pattern_at
all_notes song n notes end first = record {
  each = λ k is_pattern.
      set_same (HaveNote (pattern_at song k)) (λ m has. has.1) (λ m has. (stored k m has, has))
      (first.each k is_pattern);
}
  where
    stored : (k m : ℕ) → HaveNote (pattern_at song k) m → k < n
    stored k m has = elim (cases_lt k (length song.patterns)) [
      | inl inside ↦ omega arith
      | inr past ↦ absurd (none_of_nil (λ row. HasNote row m) (rw (get_or_past song.patterns k [] past) at has))
    ]
