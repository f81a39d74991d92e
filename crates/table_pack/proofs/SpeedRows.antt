-- The rows of the speed table, each once, pointer by pointer.
use Rattle.std.proofs.Common.{◌≡◌, ℕ, suc, ◌+◌, ◌-◌, ◌<◌, ◌≤◌, ◌⊎◌, Bool, true, false}
use Rattle.std.proofs.Common.{not, ◌==◌, List, [], ◌∷◌, ◌++◌, length, map, get_or, refl, sym, ◌∙◌}
use Rattle.std.proofs.Common.{ap, subst, inl, inr, arith}
use Rattle.std.proofs.Math.ListN.{set}
use Rattle.std.specs.List.{filter, list_any, position_or_len, range_with_len}
use Rattle.std.proofs.lemmas.List.{get_or-set_same, get_or-set_other, length-set, map-append}
use Rattle.std.proofs.lemmas.List.Elements.{filter-append}
use Rattle.std.proofs.lemmas.List.Sums.{passes_at_first}
use Rattle.std.proofs.lemmas.Bool.{ne_eqb, eq-eqb, and_from, not-true, not-false}
use Rattle.song_model.specs.declared.tables.TableRow.{TableRow}
use Rattle.song_model.specs.declared.songs.Song.{Song}
use Rattle.song_model.specs.LookUp.{speed_row, zero_table_row}
use Rattle.packing_rules.specs.ProgramMaps.{row_at}
use Rattle.packing_rules.specs.Renumbering.{first_seen, same_row, speed_rows, speed_number}
use Rattle.packing_rules.proofs.Laws.{range_more, first_seen_push, same_row_is, any_of_map, new_place, old_place}
use Rattle.table_pack.specs.Speeds.{IsSpeedMerge, sides_of, with_row}

row_itself : (x : TableRow) → same_row x x ≡ true
row_itself x = and_from (x.left == x.left) (x.right == x.right) (eq-eqb x.left x.left refl) (eq-eqb x.right x.right refl)

-- ---- pointer by pointer

-- the rows of the used numbers from 1 to i
abbrev pub rows_to : Song → (ℕ → Bool) → ℕ → List TableRow
rows_to song used i = first_seen same_row (map (speed_row song) (filter used (range_with_len 1 i)))

pub record MergedSoFar (song : Song) (used : ℕ → Bool) (i : ℕ) (rows : List TableRow) (to : List ℕ) : Type 0 where
  pub long : length to ≡ 256
  pub rows_are : rows ≡ rows_to song used i
  pub number : (q : ℕ) → used q ≡ true → q ≤ i → get_or to q 0 ≡ position_or_len (same_row (speed_row song q)) rows + 1
  pub seen : (q : ℕ) → used q ≡ true → q ≤ i → position_or_len (same_row (speed_row song q)) rows < length rows
  pub none : (q : ℕ) → used q ≡ false → get_or to q 0 ≡ 0
  pub later : (q : ℕ) → i < q → get_or to q 0 ≡ 0

pub merged_none : (song : Song) (used : ℕ → Bool) (to : List ℕ) → used 0 ≡ false → length to ≡ 256 →
    ((q : ℕ) → get_or to q 0 ≡ 0) → MergedSoFar song used 0 [] to
merged_none song used to not_0 long zeros = record {
  long = long;
  rows_are = refl;
  number = λ q is low. absurd (let e : q ≡ 0 = omega arith in let f = ap used e in cc);
  seen = λ q is low. absurd (let e : q ≡ 0 = omega arith in let f = ap used e in cc);
  none = λ q _. zeros q;
  later = λ q _. zeros q;
}

filter_next : (used : ℕ → Bool) (i : ℕ) →
    filter used (range_with_len 1 (i + 1)) ≡ filter used (range_with_len 1 i) ++ filter used ((i + 1) ∷ [])
filter_next used i =
    let more : i + 1 ≡ suc i = omega arith in
    let next : 1 + i ≡ i + 1 = omega arith in
    ap (λ (k : ℕ). filter used (range_with_len 1 k)) more ∙ ap (filter used) (range_more 1 i)
    ∙ filter-append used (range_with_len 1 i) ((1 + i) ∷ [])
    ∙ ap (λ (k : ℕ). filter used (range_with_len 1 i) ++ filter used (k ∷ [])) next

rows_left : (song : Song) (used : ℕ → Bool) (i : ℕ) → used (i + 1) ≡ false → rows_to song used (i + 1) ≡ rows_to song used i
rows_left song used i fails =
    ap (λ (ns : List ℕ). first_seen same_row (map (speed_row song) ns))
    (filter_next used i ∙ rw fails (append_none (filter used (range_with_len 1 i))))
  where
    append_none : (ns : List ℕ) → ns ++ [] ≡ ns
    append_none [] = refl
    append_none (n ∷ ns) = ap (λ (t : List ℕ). n ∷ t) (append_none ns)

rows_more : (song : Song) (used : ℕ → Bool) (i : ℕ) → used (i + 1) ≡ true →
    rows_to song used (i + 1) ≡ with_row (rows_to song used i) (speed_row song (i + 1))
rows_more song used i is =
    ap (λ (ns : List ℕ). first_seen same_row (map (speed_row song) ns))
    (filter_next used i ∙ rw is refl)
    ∙ ap (first_seen same_row) (map-append (speed_row song) (filter used (range_with_len 1 i)) ((i + 1) ∷ []))
    ∙ first_seen_push same_row same_row_is (map (speed_row song) (filter used (range_with_len 1 i))) (speed_row song (i + 1))

last_or_before : (p i : ℕ) → p ≤ i + 1 → (p ≡ i + 1) ⊎ (p ≤ i)
last_or_before p i most = grind arith

pub merged_left : (song : Song) (used : ℕ → Bool) (i : ℕ) (rows : List TableRow) (to : List ℕ) →
    MergedSoFar song used i rows to → used (i + 1) ≡ false → MergedSoFar song used (i + 1) rows to
merged_left song used i rows to so_far fails = record {
  long = so_far.long;
  rows_are = so_far.rows_are ∙ sym (rows_left song used i fails);
  number = λ q is low. elim (last_or_before q i low) [
    | inl last ↦ absurd (let e = ap used last in cc)
    | inr before ↦ so_far.number q is before
  ];
  seen = λ q is low. elim (last_or_before q i low) [
    | inl last ↦ absurd (let e = ap used last in cc)
    | inr before ↦ so_far.seen q is before
  ];
  none = so_far.none;
  later = λ q low. so_far.later q (omega arith);
}

pub merged_more : (song : Song) (used : ℕ → Bool) (i : ℕ) (rows : List TableRow) (to : List ℕ) (row : TableRow) (n : ℕ) →
    MergedSoFar song used i rows to → used (i + 1) ≡ true → i + 1 < 256 → row ≡ speed_row song (i + 1) →
    n ≡ position_or_len (same_row row) rows + 1 →
    MergedSoFar song used (i + 1) (with_row rows row) (set to (i + 1) n)
merged_more song used i rows to row n so_far is room row_is n_is = record {
  long = length-set to (i + 1) n ∙ so_far.long;
  rows_are = ap (λ (r : List TableRow). with_row r row) so_far.rows_are
      ∙ ap (with_row (rows_to song used i)) row_is ∙ sym (rows_more song used i is);
  number = λ q is_q low. elim (last_or_before q i low) [
    | inl last ↦ ap (λ (k : ℕ). get_or (set to (i + 1) n) k 0) last
        ∙ get_or-set_same to (i + 1) n 0 (subst (λ (k : ℕ). i + 1 < k) (sym so_far.long) room)
        ∙ n_is ∙ ap (λ (k : ℕ). k + 1) (sym (new_place same_row row_itself rows row).0)
        ∙ ap (λ (r : TableRow). position_or_len (same_row r) (with_row rows row) + 1)
        (row_is ∙ ap (speed_row song) (sym last))
    | inr before ↦ get_or-set_other to (i + 1) q n 0 (λ (z : q ≡ i + 1). absurd (omega arith))
        ∙ so_far.number q is_q before
        ∙ ap (λ (k : ℕ). k + 1) (sym (old_place same_row (same_row (speed_row song q)) rows row (so_far.seen q is_q before)).0)
  ];
  seen = λ q is_q low. elim (last_or_before q i low) [
    | inl last ↦ subst (λ (r : TableRow). position_or_len (same_row r) (with_row rows row) < length (with_row rows row))
        (row_is ∙ ap (speed_row song) (sym last)) (new_place same_row row_itself rows row).1
    | inr before ↦ (old_place same_row (same_row (speed_row song q)) rows row (so_far.seen q is_q before)).1
  ];
  none = λ q fails. get_or-set_other to (i + 1) q n 0 (λ (z : q ≡ i + 1). let e = ap used z in absurd cc)
      ∙ so_far.none q fails;
  later = λ q low. get_or-set_other to (i + 1) q n 0 (λ (z : q ≡ i + 1). absurd (omega arith)) ∙ so_far.later q (omega arith);
}

pub merged_all : (song : Song) (used : ℕ → Bool) (rows : List TableRow) (to : List ℕ) → used 0 ≡ false →
    MergedSoFar song used 255 rows to → IsSpeedMerge song used rows (λ p. get_or to p 0)
unfolding speed_rows speed_number
merged_all song used rows to not_0 so_far = record {
  rows_are = so_far.rows_are;
  number = λ p is small.
      so_far.number p is (omega arith)
      ∙ rw is (ap (λ (r : List TableRow). position_or_len (same_row (speed_row song p)) r + 1) so_far.rows_are);
  none = so_far.none;
  stored = λ p is small.
      let e = so_far.number p is (omega arith) in
      let low = so_far.seen p is (omega arith) in
      record { first = omega arith; last = omega arith };
  row = λ p is small.
      let low = so_far.seen p is (omega arith) in
      ap (row_at rows) (so_far.number p is (omega arith))
      ∙ row_behind (position_or_len (same_row (speed_row song p)) rows)
      ∙ sym (same_row_is (speed_row song p) (get_or rows (position_or_len (same_row (speed_row song p)) rows) zero_table_row)
      (passes_at_first (same_row (speed_row song p)) rows zero_table_row low));
}
  where
    row_behind : (n : ℕ) → row_at rows (n + 1) ≡ get_or rows n zero_table_row
    row_behind n =
        let some = ne_eqb (n + 1) 0 (λ (e : n + 1 ≡ 0). omega arith) in
        let less : n + 1 - 1 ≡ n = omega arith in
        rw some (rw less refl)

-- ---- one number

pub new_row : (test : ℕ × ℕ → Bool) (row : TableRow) (rows : List TableRow) (keys : List (ℕ × ℕ)) (is_new : Bool) →
    keys ≡ map sides_of rows → is_new ≡ not (list_any test keys) → ((x : TableRow) → test (sides_of x) ≡ same_row row x) →
    is_new ≡ true → rows ++ row ∷ [] ≡ with_row rows row
new_row test row rows keys is_new together added same is =
    let none : list_any (same_row row) rows ≡ false =
    sym (any_of_map sides_of test (same_row row) rows same) ∙ ap (list_any test) (sym together)
    ∙ not-true (list_any test keys) (sym added ∙ is) in
    rw none refl

pub old_row : (test : ℕ × ℕ → Bool) (row : TableRow) (rows : List TableRow) (keys : List (ℕ × ℕ)) (is_new : Bool) →
    keys ≡ map sides_of rows → is_new ≡ not (list_any test keys) → ((x : TableRow) → test (sides_of x) ≡ same_row row x) →
    is_new ≡ false → rows ≡ with_row rows row
old_row test row rows keys is_new together added same is =
    let some : list_any (same_row row) rows ≡ true =
    sym (any_of_map sides_of test (same_row row) rows same) ∙ ap (list_any test) (sym together)
    ∙ not-false (list_any test keys) (sym added ∙ is) in
    rw some refl
