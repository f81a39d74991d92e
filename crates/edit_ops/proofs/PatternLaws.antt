-- Patterns that edits make are within their limits.
use Rattle.std.proofs.Common.{◌≡◌, ℕ, ◌<◌, ◌≤◌, true, false, get_or, nat_le, nat_lt, nat_eq, eq-eqb}
use Rattle.std.proofs.Common.{◌≢◌, List, length, map, set, arith, ap, refl, inl, inr}
use Rattle.std.specs.List.{insert, remove, list_any}
use Rattle.std.proofs.Math.ListN.{length-set}
use Rattle.std.proofs.lemmas.List.{length-map}
use Rattle.std.proofs.lemmas.List.Edits.{length-insert, length-remove}
use Rattle.std.proofs.lemmas.List.Elements.{All-set, All-map}
use Rattle.std.proofs.lemmas.Bool.{or_parts, cases_Bool}
use Rattle.std.proofs.lemmas.Bool.Decides.{nat_tests}
use Rattle.song_model.specs.declared.rows.Row.{Row}
use Rattle.song_model.specs.declared.songs.Song.{Song}
use Rattle.song_model.specs.LookUp.{pattern_at}
use Rattle.song_model.specs.PatternLimits.{IsRow, IsPatternLength, IsPattern}
use Rattle.song_model.specs.Silence.{rest_row}
use Rattle.edit_ops.specs.Lists.{resized}
use Rattle.edit_ops.specs.Patterns.{lacks_pattern, lacks_row, lacks_row_gap, has_rows, is_row, is_note, leaves_range}
use Rattle.edit_ops.specs.Patterns.{raised_by, transposed}
use Rattle.edit_ops.proofs.ListLaws.{All-insert, All-remove, All-resized, length-resized, none_passes}

pub row_in_range : (row : Row) → row.param < 256 → is_row row ≡ true → IsRow row
row_in_range row p h = record {
  note_from = grind (arith, nat_tests);
  note_to = grind (arith, nat_tests);
  instrument = grind (arith, nat_tests);
  command = grind (arith, nat_tests);
  param = p;
}

-- what the tests of places and limits tell
pub pattern_stands : (song : Song) (pattern : ℕ) → lacks_pattern song pattern ≡ false → pattern < length song.patterns
pattern_stands song pattern h = grind (arith, nat_tests)

pub row_stands : (song : Song) (pattern place : ℕ) → lacks_row song pattern place ≡ false →
    (lacks_pattern song pattern ≡ false) × (place < length (pattern_at song pattern))
row_stands song pattern place h =
    let parts = or_parts (lacks_pattern song pattern) (nat_le (length (pattern_at song pattern)) place) h in
    (parts.0, let k = parts.1 in grind (arith, nat_tests))

pub gap_stands : (song : Song) (pattern place : ℕ) → lacks_row_gap song pattern place ≡ false →
    (lacks_pattern song pattern ≡ false) × (place ≤ length (pattern_at song pattern))
gap_stands song pattern place h =
    let parts = or_parts (lacks_pattern song pattern) (nat_lt (length (pattern_at song pattern)) place) h in
    (parts.0, let k = parts.1 in grind (arith, nat_tests))

pub other_length : (song : Song) (pattern n : ℕ) → has_rows song pattern n ≡ false → length (pattern_at song pattern)
    ≢ n
other_length song pattern n h e = let t : nat_eq (length (pattern_at song pattern)) n ≡ true = eq-eqb _ _ e in cc

pub set_is_pattern : (rows : List Row) (place : ℕ) (row : Row) → IsPattern rows → IsRow row → IsPattern
    (set rows place row)
set_is_pattern rows place row p r = record {
  count = record { least = omega (arith, length-set rows place row); most = omega (arith, length-set rows place row) };
  each = All-set IsRow rows place row r p.each;
}

pub insert_is_pattern : (rows : List Row) (place : ℕ) (row : Row) → IsPattern rows → IsRow row → place ≤ length rows →
    length rows < 128 → IsPattern (insert rows place row)
insert_is_pattern rows place row p r inside room =
    let n = length-insert rows place row inside in
    record {
      count = record { least = omega (arith, n); most = omega (arith, n) };
      each = All-insert IsRow rows place row r p.each;
    }

pub remove_is_pattern : (rows : List Row) (place : ℕ) → IsPattern rows → place < length rows → 1 < length rows →
    IsPattern (remove rows place)
remove_is_pattern rows place p inside more =
    let n = length-remove rows place inside in
    record {
      count = record { least = omega (arith, n); most = omega (arith, n) };
      each = All-remove IsRow rows place p.each;
    }

pub rest_in_range : IsRow rest_row
rest_in_range = record {
  note_from = omega arith;
  note_to = omega arith;
  instrument = omega arith;
  command = omega arith;
  param = omega arith;
}

pub resized_is_pattern : (n : ℕ) (rows : List Row) → IsPattern rows → IsPatternLength n → IsPattern
    (resized n rest_row rows)
resized_is_pattern n rows p l =
    let e = length-resized n rest_row rows in
    record {
      count = record { least = omega (arith, e, l.least); most = omega (arith, e, l.most) };
      each = All-resized IsRow n rest_row rows rest_in_range p.each;
    }

from_note : (n : ℕ) → is_note n ≡ true → 0x60 ≤ n
from_note n h = grind (arith, nat_tests)

to_note : (n : ℕ) → is_note n ≡ true → n ≤ 0xBF
to_note n h = grind (arith, nat_tests)

-- a note that stays one
left_note : (byte : ℕ) (row : Row) → is_note row.note ≡ true → leaves_range byte row ≡ false →
    is_note (raised_by byte row.note) ≡ true
left_note byte row note stays = elim (cases_Bool (is_note (raised_by byte row.note))) [
  | inl still ↦ still
  | inr left ↦ let gone : leaves_range byte row ≡ true = rw (note, left) refl in cc
]

note_in_range : (byte : ℕ) (row : Row) → IsRow row → is_note (raised_by byte row.note) ≡ true →
    IsRow (record row { note = raised_by byte row.note })
note_in_range byte row r note = record {
  note_from = from_note (raised_by byte row.note) note;
  note_to = to_note (raised_by byte row.note) note;
  instrument = r.instrument;
  command = r.command;
  param = r.param;
}

transposed_in_range : (byte : ℕ) (row : Row) → IsRow row → leaves_range byte row ≡ false → IsRow (transposed byte row)
transposed_in_range byte row r stays = elim (cases_Bool (is_note row.note)) [
  | inl note ↦ rw note (note_in_range byte row r (left_note byte row note stays))
  | inr other ↦ rw other r
]

pub transposed_is_pattern : (byte : ℕ) (rows : List Row) → IsPattern rows → list_any (leaves_range byte) rows ≡ false →
    IsPattern (map (transposed byte) rows)
transposed_is_pattern byte rows p stays =
    let n = length-map rows (transposed byte) in
    let none = none_passes (leaves_range byte) rows stays in
    record {
      count = record { least = omega (arith, n, p.count.least); most = omega (arith, n, p.count.most) };
      each =
          All-map IsRow (transposed byte) rows
          (λ k d inside. transposed_in_range byte (get_or rows k d) (p.each k d inside) (none k d inside));
    }

-- ---- the pattern of a song that an edit makes

pub set_stays : (song : Song) (pattern place : ℕ) (row : Row) (rows : List Row) → rows ≡ pattern_at song pattern →
    (lacks_pattern song pattern ≡ false → IsPattern rows) → IsRow row → lacks_row song pattern place ≡ false →
    IsPattern (set rows place row)
set_stays song pattern place row rows e p r h =
    set_is_pattern rows place row (p (row_stands song pattern place h).0) r

pub insert_stays : (song : Song) (pattern place : ℕ) (row : Row) (rows : List Row) → rows ≡ pattern_at song pattern →
    (lacks_pattern song pattern ≡ false → IsPattern rows) → IsRow row → lacks_row_gap song pattern place ≡ false →
    has_rows song pattern 128 ≡ false → IsPattern (insert rows place row)
insert_stays song pattern place row rows e p r h full =
    let stands = gap_stands song pattern place h in
    let is = p stands.0 in
    let l = ap length e in
    let other = other_length song pattern 128 full in
    insert_is_pattern rows place row is r (omega (arith, l, stands.1)) (omega (arith, l, is.count.most, other))

pub remove_stays : (song : Song) (pattern place : ℕ) (rows : List Row) → rows ≡ pattern_at song pattern →
    (lacks_pattern song pattern ≡ false → IsPattern rows) → lacks_row song pattern place ≡ false →
    has_rows song pattern 1 ≡ false → IsPattern (remove rows place)
remove_stays song pattern place rows e p h last =
    let stands = row_stands song pattern place h in
    let is = p stands.0 in
    let l = ap length e in
    let other = other_length song pattern 1 last in
    remove_is_pattern rows place is (omega (arith, l, stands.1)) (omega (arith, l, is.count.least, other))
