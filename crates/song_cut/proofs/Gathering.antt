-- Numbers are gathered, each once.
use Rattle.std.proofs.Common.{◌≡◌, ℕ, zero, suc, ◌+◌, ◌-◌, ◌<◌, ◌≤◌, ◌||◌, Bool, true, false, List, [], ◌∷◌, ◌++◌}
use Rattle.std.proofs.Common.{length, take, drop, get_or, nat_eq, replicate, refl, sym, ◌∙◌, ap, subst, inl, inr, arith}
use Rattle.std.proofs.Common.{append_assoc, length-append}
use Rattle.std.proofs.Math.ListN.{set}
use Rattle.std.specs.List.{list_any, flat_map, range_with_len}
use Rattle.std.proofs.lemmas.Bool.{cases_Bool, eqb-true}
use Rattle.std.proofs.lemmas.List.{append-nil, get_or-replicate, length-replicate, length-set, take_more, take-append-drop}
use Rattle.std.proofs.lemmas.List.Folds.{list_any-append}
use Rattle.std.proofs.lemmas.List.Sums.{fold-append, fold_push}
use Rattle.song_model.specs.declared.patterns.TheConstants.{MOST_PATTERNS}
use Rattle.packing_rules.specs.Renumbering.{first_seen}
use Rattle.packing_rules.proofs.Laws.{first_seen_push}
use Rattle.song_cut.specs.declared.collecting.TheConstants.{MOST_PIECES}
use Rattle.song_cut.specs.declared.seen.SeenPieces.{SeenPieces}
use Rattle.pattern_cut.specs.CutSongs.{Ways}
use Rattle.song_cut.specs.declared.table.PieceTable.{PieceTable}
use Rattle.song_cut.specs.Tables.{named_numbers, numbers_below, all_numbers}
use Rattle.song_cut.specs.Marks.{is_marked}
use Rattle.song_cut.specs.Seen.{with_number, gathered, AreMarked, AreSeen}
use Rattle.song_cut.proofs.Lists.{flat_map_push, range_next}
use Rattle.song_cut.proofs.Marking.{one_marked}

-- ---- one number

pub there_already : (numbers : List ℕ) (k : ℕ) → list_any (nat_eq k) numbers ≡ true → with_number numbers k ≡ numbers
unfolding with_number
there_already numbers k there = rw there refl

pub new_one : (numbers : List ℕ) (k : ℕ) → list_any (nat_eq k) numbers ≡ false →
    with_number numbers k ≡ numbers ++ k ∷ []
unfolding with_number
new_one numbers k none = rw none refl

pub seen_there : (seen : SeenPieces) (k : ℕ) → AreMarked seen → k < MOST_PIECES → is_marked seen.marks k ≡ true →
    AreSeen (with_number seen.numbers.items k) seen
seen_there seen k marked small is = record {
  numbers_are = sym (there_already seen.numbers.items k (sym (marked.each k small) ∙ is));
  marked = marked;
}

pub seen_full : (seen : SeenPieces) (k : ℕ) → AreMarked seen → k < MOST_PIECES → is_marked seen.marks k ≡ false →
    length seen.numbers.items ≡ MOST_PATTERNS → MOST_PATTERNS < length (with_number seen.numbers.items k)
seen_full seen k marked small fails full =
    let more = ap length (new_one seen.numbers.items k (sym (marked.each k small) ∙ fails)) in
    let count = length-append seen.numbers.items (k ∷ []) in
    omega arith

pub seen_new : (seen new : SeenPieces) (k : ℕ) → AreMarked seen → k < MOST_PIECES → is_marked seen.marks k ≡ false →
    new.marks ≡ set seen.marks k true → new.numbers.items ≡ seen.numbers.items ++ k ∷ [] →
    AreSeen (with_number seen.numbers.items k) new
seen_new seen new k marked small fails marks_are numbers_are = record {
  numbers_are = numbers_are ∙ sym (new_one seen.numbers.items k (sym (marked.each k small) ∙ fails));
  marked = record {
    long = ap length marks_are ∙ length-set seen.marks k true ∙ marked.long;
    each = λ n low.
        ap (λ (marks : List Bool). is_marked marks n) marks_are
        ∙ one_marked seen.marks k n (subst (λ (m : ℕ). k < m) (sym marked.long) small)
        ∙ ap (λ (b : Bool). b || nat_eq n k) (marked.each n low)
        ∙ ap (λ (b : Bool). list_any (nat_eq n) seen.numbers.items || b) (sym (only n k))
        ∙ sym (list_any-append (nat_eq n) seen.numbers.items (k ∷ []))
        ∙ ap (list_any (nat_eq n)) (sym numbers_are);
  };
}
  where
    only : (n k : ℕ) → list_any (nat_eq n) (k ∷ []) ≡ nat_eq n k
    only n k = by_test (nat_eq n k) refl
      where
        by_test : (b : Bool) → nat_eq n k ≡ b → list_any (nat_eq n) (k ∷ []) ≡ nat_eq n k
        by_test true e = rw e refl
        by_test false e = rw e refl

pub none_seen : (seen : SeenPieces) → seen.marks ≡ replicate MOST_PIECES false → seen.numbers.items ≡ [] →
    AreMarked seen
none_seen seen marks_are numbers_are = record {
  long = ap length marks_are ∙ length-replicate MOST_PIECES false;
  each = λ k small.
      ap (λ (marks : List Bool). is_marked marks k) marks_are
      ∙ get_or-replicate MOST_PIECES k false false small
      ∙ ap (list_any (nat_eq k)) (sym numbers_are);
}

-- ---- more numbers

pub gathered_none : (numbers : List ℕ) → gathered numbers [] ≡ numbers
unfolding gathered
gathered_none numbers = refl

pub gathered_push : (numbers more : List ℕ) (k : ℕ) →
    gathered numbers (more ++ k ∷ []) ≡ with_number (gathered numbers more) k
unfolding gathered
gathered_push numbers more k = fold_push with_number numbers more k

pub gathered_next : (numbers more : List ℕ) (i : ℕ) → i < length more →
    gathered numbers (take (i + 1) more) ≡ with_number (gathered numbers (take i more)) (get_or more i 0)
gathered_next numbers more i inside =
    ap (gathered numbers) (take_more more i 0 inside) ∙ gathered_push numbers (take i more) (get_or more i 0)

pub gathered_both : (numbers more others : List ℕ) →
    gathered numbers (more ++ others) ≡ gathered (gathered numbers more) others
unfolding gathered
gathered_both numbers more others = fold-append with_number numbers more others

with_more : (numbers : List ℕ) (k : ℕ) → length numbers ≤ length (with_number numbers k)
with_more numbers k = elim (cases_Bool (list_any (nat_eq k) numbers)) [
  | inl there ↦ (let e = ap length (there_already numbers k there) in omega arith)
  | inr none ↦ (
      let e = ap length (new_one numbers k none) in
      let count = length-append numbers (k ∷ []) in
      omega arith)
]

-- nothing is lost
pub gathered_more : (numbers more : List ℕ) → length numbers ≤ length (gathered numbers more)
unfolding gathered
gathered_more numbers [] = omega arith
gathered_more numbers (k ∷ more) =
    let one = with_more numbers k in
    let rest = gathered_more (with_number numbers k) more in
    omega arith

-- ---- those with no equal one before them

from_seen : (numbers more : List ℕ) → gathered (first_seen nat_eq numbers) more ≡ first_seen nat_eq (numbers ++ more)
unfolding gathered with_number
from_seen numbers [] = ap (first_seen nat_eq) (sym (append-nil numbers))
from_seen numbers (k ∷ more) =
    ap (λ (ns : List ℕ). gathered ns more) (sym (first_seen_push nat_eq eqb-true numbers k))
    ∙ from_seen (numbers ++ k ∷ []) more
    ∙ ap (first_seen nat_eq) (append_assoc numbers (k ∷ []) more)

pub gathered_are : (numbers : List ℕ) → gathered [] numbers ≡ first_seen nat_eq numbers
gathered_are numbers = from_seen [] numbers

-- where a part is too many already
pub too_many : (numbers more items : List ℕ) (i : ℕ) → i < length more → items ≡ gathered numbers (take i more) →
    MOST_PATTERNS < length (with_number items (get_or more i 0)) → MOST_PATTERNS < length (gathered numbers more)
too_many numbers more items i inside are many =
    let whole : gathered numbers more ≡ gathered (with_number items (get_or more i 0)) (drop (i + 1) more) =
    ap (gathered numbers) (sym (take-append-drop (i + 1) more))
    ∙ gathered_both numbers (take (i + 1) more) (drop (i + 1) more)
    ∙ ap (λ (front : List ℕ). gathered front (drop (i + 1) more))
    (gathered_next numbers more i inside ∙ ap (λ (front : List ℕ). with_number front (get_or more i 0)) (sym are)) in
    let rest = gathered_more (with_number items (get_or more i 0)) (drop (i + 1) more) in
    let count = ap length whole in
    omega arith

-- ---- pattern by pattern

pub below_none : (table : PieceTable) (ways : Ways) → numbers_below table ways 0 ≡ []
unfolding numbers_below
below_none table ways = refl

pub below_next : (table : PieceTable) (ways : Ways) (n : ℕ) →
    numbers_below table ways (n + 1) ≡ numbers_below table ways n ++ named_numbers table ways n
unfolding numbers_below
below_next table ways n =
    ap (flat_map (named_numbers table ways)) (range_next n)
    ∙ flat_map_push (named_numbers table ways) (range_with_len 0 n) n

pub gathered_below : (table : PieceTable) (ways : Ways) (n : ℕ) →
    gathered [] (numbers_below table ways (n + 1))
    ≡ gathered (gathered [] (numbers_below table ways n)) (named_numbers table ways n)
gathered_below table ways n =
    ap (gathered []) (below_next table ways n)
    ∙ gathered_both [] (numbers_below table ways n) (named_numbers table ways n)

-- where those of the first patterns are too many already
pub too_many_below : (table : PieceTable) (ways : Ways) (n : ℕ) (items : List ℕ) → n < MOST_PATTERNS →
    items ≡ gathered [] (numbers_below table ways n) →
    MOST_PATTERNS < length (gathered items (named_numbers table ways n)) →
    MOST_PATTERNS < length (gathered [] (all_numbers table ways))
too_many_below table ways n items inside are many =
    let here : gathered items (named_numbers table ways n) ≡ gathered [] (numbers_below table ways (n + 1)) =
    ap (λ (front : List ℕ). gathered front (named_numbers table ways n)) are ∙ sym (gathered_below table ways n) in
    let grown = below_grows table ways (n + 1) (MOST_PATTERNS - (n + 1)) in
    let all : n + 1 + (MOST_PATTERNS - (n + 1)) ≡ MOST_PATTERNS = omega arith in
    let total = ap (λ (k : ℕ). length (gathered [] (numbers_below table ways k))) all in
    let count = ap length here in
    omega arith
  where
    below_grows : (table : PieceTable) (ways : Ways) (n more : ℕ) →
        length (gathered [] (numbers_below table ways n)) ≤ length (gathered [] (numbers_below table ways (n + more)))
    below_grows table ways n zero = let e : n + 0 ≡ n = omega arith in rw e (omega arith)
    below_grows table ways n (suc more) =
        let rest = below_grows table ways n more in
        let one = gathered_more (gathered [] (numbers_below table ways (n + more))) (named_numbers table ways (n +
        more)) in
        let last = ap length (gathered_below table ways (n + more)) in
        let e : n + suc more ≡ n + more + 1 = omega arith in
        rw e (omega arith)

pub unnamed_seen : (table : PieceTable) (ways : Ways) (n : ℕ) (seen : SeenPieces) → AreMarked seen →
    is_marked table.named n ≡ false → AreSeen (gathered seen.numbers.items (named_numbers table ways n)) seen
unnamed_seen table ways n seen marked fails = record {
  numbers_are = sym (rw fails (gathered_none seen.numbers.items));
  marked = marked;
}
