-- The labels of a packed song's lists: how many they are, which, and each once.
use Rattle.std.proofs.Common.{◌≡◌, ℕ, zero, suc, ◌+◌, ◌-◌, ◌<◌, ◌≤◌, inl, inr, Bool, true, false, List}
use Rattle.std.proofs.Common.{[], ◌∷◌, ◌++◌, length, get_or, map, All, nat_eq, refl, sym, ap, ◌∙◌}
use Rattle.std.proofs.Common.{subst, arith, length-append}
use Rattle.std.specs.Prelude.{IsPermutation}
use Rattle.std.specs.List.{range_with_len}
use Rattle.std.proofs.lemmas.Bool.{cases_lt, eqb-true, ne_eqb}
use Rattle.std.proofs.lemmas.List.{map-append, get_or-map, get_or_append_left, get_or-append-add}
use Rattle.std.proofs.lemmas.List.FromFn.{get_or-range_with_len}
use Rattle.std.proofs.lemmas.List.Elements.{All-append}
use Rattle.std.proofs.lemmas.List.Sorted.{sum_by-IsPermutation}
use Rattle.packed_form.specs.declared.packed_songs.PackedSong.{PackedSong}
use Rattle.player_memory.specs.declared.labels.TheConstants.{ORDERS, PATTERNS}
use Rattle.song_lists.specs.declared.marks.Mark.{Mark}
use Rattle.song_lists.specs.DataLists.{patterns_place, order_places, pattern_places}
use Rattle.song_lists.specs.DataLists.{marks_from}
use Rattle.song_lists.specs.DataLists.{list_marks, data_marks}
use Rattle.song_lists.specs.ListLaws.{KeepsCounts, IsListLabel, IsDataLabel}
use Rattle.song_lists.proofs.Pieces.{places_count}
use Rattle.song_lists.proofs.Lists.{order_places_count}
use Rattle.song_lists.proofs.Standing.{marks_count, marks_at}
use Rattle.song_lists.proofs.Naming.{one_if, times_marked, times_are_sums}

-- ---- limits

pub few_subtunes : (packed : PackedSong) → KeepsCounts packed → length packed.subtunes ≤ 32
few_subtunes packed counts = counts.subtunes

pub few_patterns : (packed : PackedSong) → KeepsCounts packed → length packed.patterns ≤ 208
few_patterns packed counts = counts.patterns

pub marks_are_few : (dependent : Bool) (packed : PackedSong) → KeepsCounts packed →
    length (data_marks dependent packed) ≤ 340
marks_are_few dependent packed counts =
    let subtunes = few_subtunes packed counts in
    let patterns = few_patterns packed counts in
    let orders = marks_count ORDERS (order_places dependent packed) in
    let order_count = order_places_count dependent packed in
    let texts = marks_count PATTERNS (pattern_places dependent packed) in
    let text_count = places_count (patterns_place dependent packed) packed.patterns in
    let outer = length-append (list_marks dependent packed)
    (marks_from ORDERS (order_places dependent packed) ++ marks_from PATTERNS (pattern_places dependent packed)) in
    let inner = length-append (marks_from ORDERS (order_places dependent packed))
    (marks_from PATTERNS (pattern_places dependent packed)) in
    omega arith

-- ---- each label once

abbrev times_in : ℕ → List ℕ → ℕ
times_in label [] = 0
times_in label (name ∷ names) = one_if (nat_eq name label) + times_in label names

times_in_labels : (label : ℕ) (marks : List Mark) →
    times_marked label marks ≡ times_in label (map (λ (mark : Mark). mark.label) marks)
times_in_labels label [] = refl
times_in_labels label (mark ∷ marks) =
    ap (λ (n : ℕ). one_if (nat_eq mark.label label) + n) (times_in_labels label marks)

times_in-append : (label : ℕ) (front back : List ℕ) →
    times_in label (front ++ back) ≡ times_in label front + times_in label back
times_in-append label [] back = omega arith
times_in-append label (name ∷ front) back = omega (arith, times_in-append label front back)

none_below : (label from n : ℕ) → label < from → times_in label (range_with_len from n) ≡ 0
none_below label from zero below = refl
none_below label from (suc n) below =
    let other : one_if (nat_eq from label) ≡ 0 = ap one_if (ne_eqb from label (omega arith)) in
    omega (arith, none_below label (from + 1) n (omega arith))

none_above : (label from n : ℕ) → from + n ≤ label → times_in label (range_with_len from n) ≡ 0
none_above label from zero above = refl
none_above label from (suc n) above =
    let other : one_if (nat_eq from label) ≡ 0 = ap one_if (ne_eqb from label (omega arith)) in
    omega (arith, none_above label (from + 1) n (omega arith))

one_at_most : (label from n : ℕ) → times_in label (range_with_len from n) ≤ 1
one_at_most label from zero = omega arith
one_at_most label from (suc n) = by_test (nat_eq from label) refl (one_at_most label (from + 1) n)
  where
    by_test : (z : Bool) → nat_eq from label ≡ z → times_in label (range_with_len (from + 1) n) ≤ 1 →
        one_if (nat_eq from label) + times_in label (range_with_len (from + 1) n) ≤ 1
    by_test true e rest =
        let same = eqb-true from label e in
        let one : one_if (nat_eq from label) ≡ 1 = ap one_if e in
        omega (arith, none_below label (from + 1) n (omega arith))
    by_test false e rest =
        let none : one_if (nat_eq from label) ≡ 0 = ap one_if e in
        omega arith

labels_from : (label : ℕ) (places : List ℕ) →
    map (λ (mark : Mark). mark.label) (marks_from label places) ≡ range_with_len label (length places)
labels_from label [] = refl
labels_from label (place ∷ places) = ap (λ (ls : List ℕ). label ∷ ls) (labels_from (label + 1) places)

-- the labels of the lists that each song has
abbrev pub list_names : List ℕ
list_names = range_with_len 128 32 ++ range_with_len 160 4

list_labels : (dependent : Bool) (packed : PackedSong) →
    map (λ (mark : Mark). mark.label) (list_marks dependent packed) ≡ list_names
list_labels dependent packed = refl

name_in_front : (k : ℕ) → k < 32 → get_or list_names k 0 ≡ 128 + k
name_in_front k inside =
    get_or_append_left (range_with_len 128 32) (range_with_len 160 4) 0 k inside
    ∙ get_or-range_with_len 128 32 k 0 inside

name_behind : (k : ℕ) → k < 4 → get_or list_names (32 + k) 0 ≡ 160 + k
name_behind k inside =
    get_or-append-add (range_with_len 128 32) (range_with_len 160 4) k 0 ∙ get_or-range_with_len 160 4 k 0 inside

listed_once : (label : ℕ) → times_in label list_names ≤ 1
listed_once label =
    let both = times_in-append label (range_with_len 128 32) (range_with_len 160 4) in elim (cases_lt label 160) [
      | inl low ↦
          let second = none_below label 160 4 low in
          omega (arith, one_at_most label 128 32)
      | inr high ↦
          let first = none_above label 128 32 (omega arith) in
          omega (arith, one_at_most label 160 4)
    ]

none_listed : (label : ℕ) → 256 ≤ label → times_in label list_names ≡ 0
none_listed label high =
    let both = times_in-append label (range_with_len 128 32) (range_with_len 160 4) in
    let first = none_above label 128 32 (omega arith) in
    let second = none_above label 160 4 (omega arith) in
    omega arith

three_ranges : (label orders patterns : ℕ) → orders ≤ 256 →
    times_in label list_names + (times_in label (range_with_len 256 orders)
    + times_in label (range_with_len 512 patterns)) ≤ 1
three_ranges label orders patterns few = elim (cases_lt label 256) [
  | inl low ↦
      let second = none_below label 256 orders low in
      let third = none_below label 512 patterns (omega arith) in
      omega (arith, listed_once label)
  | inr high ↦
      let first = none_listed label high in elim (cases_lt label 512) [
        | inl middle ↦
            let third = none_below label 512 patterns middle in
            omega (arith, one_at_most label 256 orders)
        | inr last ↦
            let second = none_above label 256 orders (omega arith) in
            omega (arith, one_at_most label 512 patterns)
      ]
]

in_three : (label : ℕ) (a b c : List ℕ) → times_in label a + (times_in label b + times_in label c) ≤ 1 →
    times_in label (a ++ (b ++ c)) ≤ 1
in_three label a b c few =
    let outer = times_in-append label a (b ++ c) in
    let inner = times_in-append label b c in
    omega arith

abbrev label_in : Mark → ℕ
label_in mark = mark.label

data_labels : (dependent : Bool) (packed : PackedSong) → map label_in (data_marks dependent packed)
    ≡ list_names ++ (range_with_len 256 (length (order_places dependent packed))
    ++ range_with_len 512 (length (pattern_places dependent packed)))
data_labels dependent packed =
    map-append label_in (list_marks dependent packed)
    (marks_from ORDERS (order_places dependent packed) ++ marks_from PATTERNS (pattern_places dependent packed))
    ∙ ap (λ (ls : List ℕ). list_names ++ ls)
    (map-append label_in (marks_from ORDERS (order_places dependent packed))
    (marks_from PATTERNS (pattern_places dependent packed))
    ∙ ap (λ (ls : List ℕ). ls ++ map label_in (marks_from PATTERNS (pattern_places dependent packed)))
    (labels_from ORDERS (order_places dependent packed))
    ∙ ap (λ (ls : List ℕ). range_with_len 256 (length (order_places dependent packed)) ++ ls)
    (labels_from PATTERNS (pattern_places dependent packed)))

pub named_once : (dependent : Bool) (packed : PackedSong) (label : ℕ) → KeepsCounts packed →
    times_marked label (data_marks dependent packed) ≤ 1
named_once dependent packed label counts =
    let few : length (order_places dependent packed) ≤ 256 =
    omega (arith, order_places_count dependent packed, few_subtunes packed counts) in
    subst (λ (n : ℕ). n ≤ 1) (sym (times_in_labels label (data_marks dependent packed)))
    (subst (λ (names : List ℕ). times_in label names ≤ 1) (sym (data_labels dependent packed))
    (in_three label list_names (range_with_len 256 (length (order_places dependent packed)))
    (range_with_len 512 (length (pattern_places dependent packed)))
    (three_ranges label (length (order_places dependent packed)) (length (pattern_places dependent packed)) few)))

pub permuted_once : (dependent : Bool) (packed : PackedSong) (label : ℕ) (marks : List Mark) → KeepsCounts packed →
    IsPermutation (data_marks dependent packed) marks → times_marked label marks ≤ 1
permuted_once dependent packed label marks counts same =
    let before = times_are_sums label (data_marks dependent packed) in
    let after = times_are_sums label marks in
    let sums = sum_by-IsPermutation (λ (mark : Mark). one_if (nat_eq mark.label label))
    (data_marks dependent packed) marks
    same in
    omega (arith, named_once dependent packed label counts)

-- ---- which labels they are

pub list_label_at : (dependent : Bool) (packed : PackedSong) (k : ℕ) (d : Mark) → k < 36 →
    (get_or (list_marks dependent packed) k d).label ≡ get_or list_names k 0
list_label_at dependent packed k d inside =
    sym (get_or-map label_in (list_marks dependent packed) k d 0 inside)
    ∙ ap (λ (names : List ℕ). get_or names k 0) (list_labels dependent packed)

pub are_list_names : (k : ℕ) → k < 36 → IsListLabel (get_or list_names k 0)
are_list_names k inside = elim (cases_lt k 32) [
  | inl front ↦
      let name = name_in_front k front in
      inl (omega arith, omega arith)
  | inr behind ↦
      let e : 32 + (k - 32) ≡ k = omega arith in
      subst (λ (n : ℕ). IsListLabel (get_or list_names n 0)) e
      (inr (let name = name_behind (k - 32) (omega arith) in (omega arith, omega arith)))
]

-- and which of them a label is
pub list_name_at : (label : ℕ) → IsListLabel label → (k : ℕ) × (k < 36) × (get_or list_names k 0 ≡ label)
list_name_at label (inl between) =
    let least = between.0 in
    let most = between.1 in
    (label - 128, omega arith, name_in_front (label - 128) (omega arith) ∙ (omega arith))
list_name_at label (inr between) =
    let least = between.0 in
    let most = between.1 in
    (32 + (label - 160), omega arith, name_behind (label - 160) (omega arith) ∙ (omega arith))

pub marks_between : (P : Mark → Type 0) (label : ℕ) (places : List ℕ) →
    ((k : ℕ) → k < length places → P (record { label = label + k; place = get_or places k 0 })) →
    All P (marks_from label places)
marks_between P label places each k d inside =
    let there : k < length places = omega (arith, marks_count label places) in
    subst P (sym (marks_at label places k d there)) (each k there)

pub all_of_three : (P : Mark → Type 0) (dependent : Bool) (packed : PackedSong) → All P (list_marks dependent packed) →
    All P (marks_from ORDERS (order_places dependent packed)) →
    All P (marks_from PATTERNS (pattern_places dependent packed)) →
    All P (data_marks dependent packed)
all_of_three P dependent packed lists orders patterns =
    All-append P (list_marks dependent packed)
    (marks_from ORDERS (order_places dependent packed) ++ marks_from PATTERNS (pattern_places dependent packed)) lists
    (All-append P (marks_from ORDERS (order_places dependent packed))
    (marks_from PATTERNS (pattern_places dependent packed)) orders
    patterns)

pub are_data_labels : (dependent : Bool) (packed : PackedSong) → KeepsCounts packed →
    All (λ (mark : Mark). IsDataLabel mark.label) (data_marks dependent packed)
are_data_labels dependent packed counts =
    let order_count = order_places_count dependent packed in
    let subtunes = few_subtunes packed counts in
    let pattern_count = places_count (patterns_place dependent packed) packed.patterns in
    let patterns = few_patterns packed counts in
    all_of_three (λ (mark : Mark). IsDataLabel mark.label) dependent packed
    (λ k d inside.
    subst IsDataLabel (sym (list_label_at dependent packed k d inside)) (inl (are_list_names k inside)))
    (marks_between (λ (mark : Mark). IsDataLabel mark.label) ORDERS (order_places dependent packed)
    (λ k inside. inr (omega arith, omega arith)))
    (marks_between (λ (mark : Mark). IsDataLabel mark.label) PATTERNS (pattern_places dependent packed)
    (λ k inside. inr (omega arith, omega arith)))
