-- The lines of a packed song's lists.
use Rattle.std.proofs.Common.{◌≡◌, ℕ, ◌+◌, ◌-◌, ◌*◌, ◌≤◌, Bool, List, ◌∷◌}
use Rattle.std.proofs.Common.{◌++◌, length, get_or, All, Contains, Some, sym, ap, ◌∙◌, subst, arith}
use Rattle.std.proofs.lemmas.List.Elements.{All-same, Contains-get_or, Contains-append_left}
use Rattle.std.proofs.lemmas.List.Sorted.{All-permutation, Contains-permutation, length_permutation}
use Rattle.packed_form.specs.declared.packed_songs.PackedSong.{PackedSong}
use Rattle.asm6502.specs.declared.lines.Line.{Line}
use Rattle.asm6502.specs.Lines.{kept, size_of, data_size, label_named, place_of}
use Rattle.asm6502.specs.Stretches.{NamesNoLabelTwice, IsNamedAlways, AtHome}
use Rattle.player_memory.specs.declared.labels.TheConstants.{ORDERS, PATTERNS}
use Rattle.song_lists.specs.declared.marks.Mark.{Mark}
use Rattle.song_lists.specs.Marks.{marked}
use Rattle.song_lists.specs.DataLists.{order_places, pattern_places, marks_from, list_marks, data_bytes, data_marks}
use Rattle.song_lists.specs.DataLists.{HasLines}
use Rattle.song_lists.specs.ListLaws.{KeepsCounts, IsPlainLine, IsListLabel, IsDataLabel, lists_size}
use Rattle.song_lists.proofs.Cutting.{marked_size, marked_data, marked_length, marked_plain, marked_kept, marked_home}
use Rattle.song_lists.proofs.Naming.{times_named, once_named, marked_times, marked_named, marked_own, marked_place}
use Rattle.song_lists.proofs.Naming.{rise_from}
use Rattle.song_lists.proofs.Lists.{data_takes_size}
use Rattle.song_lists.proofs.Standing.{no_mark}
use Rattle.song_lists.proofs.DataMarks.{marks_are_few, permuted_once, list_label_at, list_name_at, are_data_labels}
use Rattle.song_lists.proofs.DataPlaces.{places_within}

pub lines_take_size : (dependent : Bool) (packed : PackedSong) (start : ℕ) (lines : List Line) →
    HasLines dependent packed start lines →
    (size_of lines ≡ lists_size dependent packed) × (data_size lines ≡ lists_size dependent packed)
lines_take_size dependent packed start lines has = (
  ap size_of has.are ∙ marked_size 0 has.marks (data_bytes dependent packed start)
      ∙ data_takes_size dependent packed start,
  ap data_size has.are ∙ marked_data 0 has.marks (data_bytes dependent packed start)
      ∙ data_takes_size dependent packed start,
)

pub lines_are_plain : (dependent : Bool) (packed : PackedSong) (start : ℕ) (lines : List Line) →
    HasLines dependent packed start lines →
    All IsPlainLine lines
lines_are_plain dependent packed start lines has =
    All-same IsPlainLine lines (marked 0 has.marks (data_bytes dependent packed start)) has.are
    (marked_plain 0 has.marks (data_bytes dependent packed start))

pub lines_are_kept : (dependent : Bool) (packed : PackedSong) (start set : ℕ) (lines : List Line) →
    HasLines dependent packed start lines →
    kept set lines ≡ lines
lines_are_kept dependent packed start set lines has =
    ap (kept set) has.are ∙ marked_kept set 0 has.marks (data_bytes dependent packed start) ∙ sym has.are

pub lines_are_at_home : (dependent : Bool) (packed : PackedSong) (start : ℕ) (lines before after : List Line)
    (others : ℕ → Bool) →
    HasLines dependent packed start lines → AtHome others before lines after
lines_are_at_home dependent packed start lines before after others has =
    subst (λ (ls : List Line). AtHome others before ls after) (sym has.are)
    (marked_home others 0 has.marks (data_bytes dependent packed start) before after)

pub lines_are_few : (dependent : Bool) (packed : PackedSong) (start : ℕ) (lines : List Line) → KeepsCounts packed →
    HasLines dependent packed start lines → length lines ≤ 1000
lines_are_few dependent packed start lines counts has =
    let most = marks_are_few dependent packed counts in
    let same = length_permutation (data_marks dependent packed) has.marks has.same in
    let count = ap length has.are ∙ marked_length 0 has.marks (data_bytes dependent packed start) in
    few_enough (length lines) (length has.marks) (length (data_marks dependent packed)) count same most
  where
    few_enough : (lines marks all : ℕ) → lines ≡ 2 * marks + 1 → marks ≡ all → all ≤ 340 → lines ≤ 1000
    few_enough _ _ _ a b c = omega arith

-- ---- labels

pub no_label_is_named_twice : (dependent : Bool) (packed : PackedSong) (start : ℕ) (lines : List Line) →
    KeepsCounts packed → HasLines dependent packed start lines → NamesNoLabelTwice lines
no_label_is_named_twice dependent packed start lines counts has =
    once_named lines
    (λ label.
    subst (λ (n : ℕ). n ≤ 1)
    (sym (ap (times_named label) has.are ∙ marked_times label 0 has.marks (data_bytes dependent packed start)))
    (permuted_once dependent packed label has.marks counts has.same))

pub own_labels_are_named : (dependent : Bool) (packed : PackedSong) (start : ℕ) (lines front : List Line) (line : Line)
    (back : List Line)
    (label : ℕ) → KeepsCounts packed → HasLines dependent packed start lines → lines ≡ front ++ line ∷ back →
    label_named line.item ≡ Some label → IsDataLabel label
own_labels_are_named dependent packed start lines front line back label counts has split name =
    marked_own IsDataLabel 0 has.marks (data_bytes dependent packed start) front line back label
    (All-permutation (λ (mark : Mark). IsDataLabel mark.label) (data_marks dependent packed) has.marks has.same
    (are_data_labels dependent packed counts)) (sym has.are ∙ split) name

-- a mark of a song's lists stands among the sorted ones
named_mark : (dependent : Bool) (packed : PackedSong) (start : ℕ) (lines : List Line) (mark : Mark) →
    HasLines dependent packed start lines →
    Contains (data_marks dependent packed) mark → IsNamedAlways lines mark.label
named_mark dependent packed start lines mark has there =
    let here = Contains-permutation (data_marks dependent packed) has.marks mark has.same there in
    subst (λ (ls : List Line). IsNamedAlways ls mark.label) (sym has.are)
    (subst (λ (m : Mark). IsNamedAlways (marked 0 has.marks (data_bytes dependent packed start)) m.label) here.2
    (marked_named 0 has.marks (data_bytes dependent packed start) here.0 mark here.1))

pub list_labels_are_named : (dependent : Bool) (packed : PackedSong) (start : ℕ) (lines : List Line) (label : ℕ) →
    HasLines dependent packed start lines → IsListLabel label → IsNamedAlways lines label
list_labels_are_named dependent packed start lines label has list =
    let at = list_name_at label list in
    let mark : Mark = get_or (list_marks dependent packed) at.0 no_mark in
    subst (IsNamedAlways lines) (list_label_at dependent packed at.0 no_mark at.1 ∙ at.2)
    (named_mark dependent packed start lines mark has
    (Contains-append_left (list_marks dependent packed)
    (marks_from ORDERS (order_places dependent packed) ++ marks_from PATTERNS (pattern_places dependent packed))
    mark (Contains-get_or (list_marks dependent packed) at.0 no_mark at.1)))

pub labels_have_places : (dependent : Bool) (packed : PackedSong) (start : ℕ) (lines : List Line) (mark : Mark) →
    KeepsCounts packed → HasLines dependent packed start lines → Contains (data_marks dependent packed) mark →
    place_of lines mark.label ≡ Some mark.place
labels_have_places dependent packed start lines mark counts has there =
    let here = Contains-permutation (data_marks dependent packed) has.marks mark has.same there in
    let within = All-permutation (λ (m : Mark). m.place ≤ length (data_bytes dependent packed start))
    (data_marks dependent packed) has.marks
    has.same (places_within dependent packed start) in
    let end : length (data_bytes dependent packed start) ≡ 0 + length (data_bytes dependent packed start) =
    omega arith in
    let rise = rise_from 0 (0 + length (data_bytes dependent packed start)) has.marks (omega arith)
    (λ d some. omega arith) has.rise
    (subst (λ (n : ℕ). All (λ (m : Mark). m.place ≤ n) has.marks) end within) in
    ap (λ (ls : List Line). place_of ls mark.label) has.are
    ∙ subst (λ (m : Mark). place_of (marked 0 has.marks (data_bytes dependent packed start)) m.label
    ≡ Some (m.place - 0)) here.2
    (marked_place 0 has.marks (data_bytes dependent packed start) here.0 mark here.1
    (permuted_once dependent packed (get_or has.marks here.0 mark).label has.marks counts has.same) rise)
    ∙ ap (λ (n : ℕ). Some n) (omega arith)
