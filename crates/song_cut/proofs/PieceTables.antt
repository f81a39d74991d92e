-- The numbers of the pieces of each pattern, pattern by pattern and size by size.
use Rattle.std.specs.Prelude.{if◌then◌else◌}
use Rattle.std.proofs.Common.{◌≡◌, ℕ, ◌+◌, ◌-◌, ◌*◌, ◌/◌, ◌≤◌, Bool, true, false, List, [], ◌∷◌, ◌++◌, length, map}
use Rattle.std.proofs.Common.{sym, ◌∙◌, ap, subst, inl, inr, arith, length-append}
use Rattle.std.specs.List.{range_with_len}
use Rattle.std.proofs.Math.Seq.{get_or-append_seam}
use Rattle.std.proofs.lemmas.Bool.{cases_lt, cases_Bool}
use Rattle.std.proofs.lemmas.List.{get_or_append_left, take_all}
use Rattle.std.proofs.lemmas.List.Elements.{All-push}
use Rattle.song_model.specs.declared.rows.Row.{Row}
use Rattle.song_model.specs.declared.songs.Song.{Song}
use Rattle.song_model.specs.declared.patterns.TheConstants.{MOST_PATTERNS}
use Rattle.song_model.specs.LookUp.{pattern_at}
use Rattle.song_model.specs.PatternLimits.{IsPattern}
use Rattle.pattern_cut.specs.declared.lengths.PieceLength.{PieceLength}
use Rattle.pattern_cut.specs.declared.lengths.PieceLength.TheVariants.{Whole, Rows64, Rows32, Rows16, Rows8}
use Rattle.pattern_cut.specs.Pieces.{rows_of, slice, slices, is_named, is_repeated}
use Rattle.song_cut.specs.declared.collecting.Piece.{Piece}
use Rattle.song_cut.specs.declared.table.PieceTable.{PieceTable}
use Rattle.song_cut.specs.Marks.{is_marked, AreOf}
use Rattle.song_cut.specs.Numbers.{most_of, AreOnce, Grows, AreNumbersOf}
use Rattle.song_cut.specs.Tables.{pieces_with, list_at, AreSmall, AreLists, AreNumbers, lists_of, IsTableOf}
use Rattle.song_cut.proofs.AddedPieces.{numbers_stay, grows_both, grown_length}

-- ---- one pattern

whole_slices : (rows : List Row) → 1 ≤ length rows → length rows ≤ 128 → slices 128 rows ≡ rows ∷ []
whole_slices rows least most =
    let one : (length rows + (128 - 1)) / 128 ≡ 1 = omega arith in
    ap (λ (k : ℕ). map (slice 128 rows) (range_with_len 0 k)) one
    ∙ ap (λ (r : List Row). r ∷ []) (take_all 128 rows most)

-- the pieces that are found are those of the pattern
pub pieces_are : (song : Song) (size kept : PieceLength) (p : ℕ) (marks : List Bool) (rows : List Row) →
    is_marked marks p ≡ is_repeated song p → kept ≡ (if is_marked marks p then Whole else size) →
    rows ≡ pattern_at song p → IsPattern rows → slices (rows_of kept) rows ≡ pieces_with song size p
unfolding pieces_with
pieces_are song size kept p marks rows repeated kept_is rows_are limits = elim (cases_Bool (is_marked marks p)) [
  | inl marked ↦ (
      let whole : kept ≡ Whole = rw marked at kept_is in
      let is : is_repeated song p ≡ true = sym repeated ∙ marked in
      rw is
      (ap (λ (k : PieceLength). slices (rows_of k) rows) whole
      ∙ whole_slices rows limits.count.least limits.count.most ∙ ap (λ (r : List Row). r ∷ []) rows_are))
  | inr unmarked ↦ (
      let same : kept ≡ size = rw unmarked at kept_is in
      let fails : is_repeated song p ≡ false = sym repeated ∙ unmarked in
      rw fails
      (ap (λ (k : PieceLength). slices (rows_of k) rows) same ∙ ap (slices (rows_of size)) rows_are))
]

-- ---- pattern by pattern

pub lists_next : (n : ℕ) (lists : List (List ℕ)) (list : List ℕ) (new : List (List ℕ)) → AreLists n lists →
    AreSmall list → new ≡ lists ++ list ∷ [] → AreLists (n + 1) new
lists_next n lists list new are small new_is =
    subst (AreLists (n + 1)) (sym new_is) (record {
      count = let count = are.count in length-append lists (list ∷ []) ∙ omega arith;
      small = All-push AreSmall lists list are.small small;
    })

pub list_numbers_next : (song : Song) (size : PieceLength) (n : ℕ) (old pieces : List Piece) (lists : List (List ℕ))
    (list : List ℕ) (new : List (List ℕ)) → Grows (most_of size) old pieces → AreLists n lists →
    AreNumbers song old size n lists →
    (is_named song n ≡ true → AreNumbersOf pieces (pieces_with song size n) list) → new ≡ lists ++ list ∷ [] →
    AreNumbers song pieces size (n + 1) new
list_numbers_next song size n old pieces lists list new grows are so_far here new_is =
    subst (AreNumbers song pieces size (n + 1)) (sym new_is) (record {
      each = λ p low named. elim (cases_lt p n) [
        | inl before ↦
            subst (AreNumbersOf pieces (pieces_with song size p))
            (sym (get_or_append_left lists (list ∷ []) [] p (let count = are.count in omega arith)))
            (numbers_stay (most_of size) old pieces (pieces_with song size p) (list_at lists p) grows (so_far.each p
            before named))
        | inr past ↦ (
            let last : p ≡ n = omega arith in
            let place : n ≡ length lists = sym are.count in
            let there : list_at (lists ++ list ∷ []) p ≡ list =
            ap (list_at (lists ++ list ∷ [])) (last ∙ place) ∙ get_or-append_seam lists list [] [] in
            subst (AreNumbersOf pieces (pieces_with song size p)) (sym there)
            (subst (λ (k : ℕ). AreNumbersOf pieces (pieces_with song size k) list) (sym last)
            (here (ap (is_named song) (sym last) ∙ named))))
      ];
    })

-- ---- size by size

numbers_of_all : (song : Song) (size : PieceLength) (n m : ℕ) (old new : List Piece) (lists : List (List ℕ)) →
    Grows m old new → AreNumbers song old size n lists → AreNumbers song new size n lists
numbers_of_all song size n m old new lists grows are = record {
  each = λ p low named.
      numbers_stay m old new (pieces_with song size p) (list_at lists p) grows (are.each p low named);
}

-- pieces of one size more
pub record OneSize (song : Song) (size : PieceLength) (old new : List Piece) (lists : List (List ℕ)) : Type 0 where
  pub grown : Grows (most_of size * 208) old new
  pub are_lists : AreLists MOST_PATTERNS lists
  pub numbers : AreNumbers song new size MOST_PATTERNS lists

pub table_is : (song : Song) (table : PieceTable) (none first second third fourth : List Piece) → none ≡ [] →
    OneSize song Whole none first table.whole → OneSize song Rows64 first second table.rows64 →
    OneSize song Rows32 second third table.rows32 → OneSize song Rows16 third fourth table.rows16 →
    OneSize song Rows8 fourth table.pieces.items table.rows8 → AreOf (is_named song) table.named →
    AreOnce table.pieces.items → IsTableOf song table
table_is song table none first second third fourth empty whole rows64 rows32 rows16 rows8 named once = record {
  named = named;
  once = once;
  few =
      let length_is = ap length empty in
      let one = grown_length 208 none first whole.grown in
      let all = grown_length 6240 first table.pieces.items from_first in
      omega arith;
  shaped = record { lists = shaped };
  numbers = numbers;
}
  where
    shaped : (size : PieceLength) → AreLists MOST_PATTERNS (lists_of table size)
    shaped Whole = whole.are_lists
    shaped Rows64 = rows64.are_lists
    shaped Rows32 = rows32.are_lists
    shaped Rows16 = rows16.are_lists
    shaped Rows8 = rows8.are_lists

    -- 208 pieces for each size, and for each one that is half as long twice as many
    from_third : Grows 4992 third table.pieces.items
    from_third = grows_both 1664 3328 third fourth table.pieces.items rows16.grown rows8.grown

    from_second : Grows 5824 second table.pieces.items
    from_second = grows_both 832 4992 second third table.pieces.items rows32.grown from_third

    from_first : Grows 6240 first table.pieces.items
    from_first = grows_both 416 5824 first second table.pieces.items rows64.grown from_second

    numbers : (size : PieceLength) → AreNumbers song table.pieces.items size MOST_PATTERNS (lists_of table size)
    numbers Whole = numbers_of_all song Whole MOST_PATTERNS 6240 first table.pieces.items table.whole from_first
        whole.numbers
    numbers Rows64 = numbers_of_all song Rows64 MOST_PATTERNS 5824 second table.pieces.items table.rows64 from_second
        rows64.numbers
    numbers Rows32 = numbers_of_all song Rows32 MOST_PATTERNS 4992 third table.pieces.items table.rows32 from_third
        rows32.numbers
    numbers Rows16 = numbers_of_all song Rows16 MOST_PATTERNS 3328 fourth table.pieces.items table.rows16 rows8.grown
        rows16.numbers
    numbers Rows8 = rows8.numbers
