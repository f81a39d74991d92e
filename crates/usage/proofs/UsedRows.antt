-- What the rows of used patterns have, marked row after row and pattern after pattern.
use Rattle.std.proofs.Common.{◌≡◌, ℕ, ◌<◌, ◌≤◌, Bool, false, List, [], length, replicate, Some}
use Rattle.std.proofs.Common.{slice_get, inl, inr, arith}
use Rattle.std.specs.List.{Contains}
use Rattle.std.proofs.lemmas.Bool.{cases_lt}
use Rattle.std.proofs.lemmas.Option.{slice_get_within, get_or_from_slice_get}
use Rattle.std.proofs.lemmas.List.{get_or_past}
use Rattle.song_model.specs.declared.rows.Row.{Row}
use Rattle.song_model.specs.declared.songs.Song.{Song}
use Rattle.song_model.specs.LookUp.{pattern_at}
use Rattle.play_model.specs.Used.{IsPlayedByte, IsUsedPattern, IsUsedRow, IsNamedInstrument, IsUsedInstrument}
use Rattle.usage.specs.Marks.{IsMarked, AreMarks}
use Rattle.usage.specs.Building.{Adds, SomeOf, SomeBelow, SomeBelowAt, AddsAt, SomeAt}
use Rattle.usage.specs.Rows.{NamesInstrument, HasCommand, HasNote, IsUsedRowOf, PatternNames, PatternHas, PatternSounds}
use Rattle.usage.specs.Rows.{IsUsedCommand, IsUsedNote, AreRowsOf}
use Rattle.usage.specs.declared.rows.RowMarks.{RowMarks}
use Rattle.usage.proofs.AddedMarks.{adds_same, adds_both, adds_at_same, marks_from_none, marks_at_from_none}

-- ---- one pattern

pattern_stored : (song : Song) (n : ℕ) (pattern : List Row) → slice_get song.patterns n ≡ Some pattern →
    pattern_at song n ≡ pattern
unfolding pattern_at
pattern_stored song n pattern e = get_or_from_slice_get song.patterns n pattern [] e

used_if : (song : Song) (n : ℕ) (bytes : List Bool) (pattern : List Row) → AreMarks (IsPlayedByte song) bytes →
    IsMarked bytes n →
    slice_get song.patterns n ≡ Some pattern → length song.patterns ≤ 208 → IsUsedPattern song n
used_if song n bytes pattern marks m e few =
    record {
      byte = (marks.each n).0 m;
      is_pattern =
          (let inside = slice_get_within song.patterns n pattern e in omega arith);
    }

pub names_of_pattern : (song : Song) (n : ℕ) (bytes : List Bool) (pattern : List Row) {old new : List Bool} →
    AreMarks (IsPlayedByte song) bytes → IsMarked bytes n →
    slice_get song.patterns n ≡ Some pattern → length song.patterns ≤ 208 →
    Adds (SomeOf NamesInstrument pattern) old new → Adds (PatternNames song n) old new
names_of_pattern song n bytes pattern marks m e few a =
    let is = pattern_stored song n pattern e in
    adds_same (PatternNames song n)
    (λ i some. record {
      row = some.1;
      used = record
          { used = used_if song n bytes pattern marks m e few; has = rw is (some.0, some.2, some.3) };
      names = some.4;
    })
    (λ i p. (let has = rw is at p.used.has in (has.0, p.row, has.1, has.2, p.names))) a

pub commands_of_pattern : (song : Song) (n : ℕ) (bytes : List Bool) (pattern : List Row) {old new : List (List Bool)} →
    AreMarks (IsPlayedByte song) bytes → IsMarked bytes n →
    slice_get song.patterns n ≡ Some pattern → length song.patterns ≤ 208 → AddsAt (SomeAt HasCommand pattern) old new →
    AddsAt (PatternHas song n) old new
commands_of_pattern song n bytes pattern marks m e few a =
    let is = pattern_stored song n pattern e in
    adds_at_same (PatternHas song n)
    (λ c d some. record {
      row = some.1;
      used = record
          { used = used_if song n bytes pattern marks m e few; has = rw is (some.0, some.2, some.3) };
      has = some.4;
    })
    (λ c d p. (let has = rw is at p.used.has in (has.0, p.row, has.1, has.2, p.has))) a

pub notes_of_pattern : (song : Song) (n : ℕ) (bytes : List Bool) (pattern : List Row) {old new : List Bool} →
    AreMarks (IsPlayedByte song) bytes → IsMarked bytes n →
    slice_get song.patterns n ≡ Some pattern → length song.patterns ≤ 208 →
    Adds (SomeOf HasNote pattern) old new → Adds (PatternSounds song n) old new
notes_of_pattern song n bytes pattern marks m e few a =
    let is = pattern_stored song n pattern e in
    adds_same (PatternSounds song n)
    (λ i some. record {
      row = some.1;
      used = record
          { used = used_if song n bytes pattern marks m e few; has = rw is (some.0, some.2, some.3) };
      has = some.4;
    })
    (λ i p. (let has = rw is at p.used.has in (has.0, p.row, has.1, has.2, p.has))) a

-- ---- all patterns

used_row : (song : Song) (n : ℕ) (row : Row) → IsUsedRowOf song n row → IsUsedRow song row
used_row song n row u = record { pattern = n; used = u.used; has = u.has }

-- a row stands in a pattern that is stored
pub inside_of : (song : Song) (n i : ℕ) (row : Row) → length song.patterns ≤ i →
    Contains (pattern_at song n) row → n < i
unfolding pattern_at
inside_of song n i row end has = elim (cases_lt n (length song.patterns)) [
  | inl stored ↦ omega arith
  | inr past ↦ (let e = get_or_past song.patterns n [] past in let none = rw e at has in
      absurd (let low = none.1 in omega arith))
]

pub names_of_all : (song : Song) (i : ℕ) {old new : List Bool} → length song.patterns ≤ i →
    Adds (SomeBelow (PatternNames song) i) old new →
    Adds (IsNamedInstrument song) old new
names_of_all song i end a =
    adds_same (IsNamedInstrument song)
    (λ n s. record {
      row = s.stands.row;
      used = used_row song s.k s.stands.row s.stands.used;
      names =
          s.stands.names.0;
      some = s.stands.names.1;
    })
    (λ n h. record {
      k = h.used.pattern;
      below = inside_of song h.used.pattern i h.row end h.used.has;
      stands = record {
        row = h.row;
        used = record { used = h.used.used; has = h.used.has };
        names =
            (h.names, h.some);
      };
    }) a

pub commands_of_all : (song : Song) (i : ℕ) {old new : List (List Bool)} → length song.patterns ≤ i →
    AddsAt (SomeBelowAt (PatternHas song) i) old new →
    AddsAt (IsUsedCommand song) old new
commands_of_all song i end a =
    adds_at_same (IsUsedCommand song)
    (λ c d s. record { row = s.stands.row; used = used_row song s.k s.stands.row s.stands.used; has = s.stands.has })
    (λ c d h. record {
      k = h.used.pattern;
      below = inside_of song h.used.pattern i h.row end h.used.has;
      stands = record { row = h.row; used = record { used = h.used.used; has = h.used.has }; has = h.has };
    }) a

pub notes_of_all : (song : Song) (i : ℕ) {old new : List Bool} → length song.patterns ≤ i →
    Adds (SomeBelow (PatternSounds song) i) old new →
    Adds (IsUsedNote song) old new
notes_of_all song i end a =
    adds_same (IsUsedNote song)
    (λ n s. record { row = s.stands.row; used = used_row song s.k s.stands.row s.stands.used; has = s.stands.has })
    (λ n h. record {
      k = h.used.pattern;
      below = inside_of song h.used.pattern i h.row end h.used.has;
      stands = record { row = h.row; used = record { used = h.used.used; has = h.used.has }; has = h.has };
    }) a

-- instrument 1, and what all patterns have, begun with no mark
pub rows_of : (song : Song) (marks : RowMarks) {mid : List Bool} → Adds (λ k. k ≡ 1) (replicate 64 false) mid →
    Adds (IsNamedInstrument song) mid marks.instruments →
    AddsAt (IsUsedCommand song) (replicate 16 (replicate 256 false)) marks.commands →
    Adds (IsUsedNote song) (replicate 256 false) marks.notes → AreRowsOf song marks
rows_of song marks first named commands notes = record {
  instruments = marks_from_none 64 (adds_same (IsUsedInstrument song) (λ n u. u) (λ n u. u) (adds_both first named));
  commands = marks_at_from_none 16 256 commands;
  notes = marks_from_none 256 notes;
}
