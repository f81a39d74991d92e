-- Marks that are added, one after the other and in loops.
use Rattle.std.proofs.Common.{◌≡◌, ℕ, ◌+◌, ◌<◌, ◌≤◌, Bool, false, ◌⊎◌, List, [], length}
use Rattle.std.proofs.Common.{get_or, take, replicate, inl, inr, arith, subst}
use Rattle.std.proofs.lemmas.Bool.{cases_lt}
use Rattle.std.proofs.lemmas.List.{take_all, get_or-replicate, get_or_past, length-replicate}
use Rattle.base.proofs.Laws.{get_or-replicate_any}
use Rattle.usage.specs.Marks.{IsMarked, AreMarks}
use Rattle.usage.specs.Building.{Adds, SomeOf, SomeBelow, SomeBelowAt, marks_of, AreMarksAt, AddsAt, SomeAt}
use Rattle.base.proofs.Laws.{any_of_more, any_more}

-- a mark stands before the last one
pub marked_inside : (marks : List Bool) (n i : ℕ) → length marks ≤ n → IsMarked marks i → i < n
marked_inside marks n i count m = elim (cases_lt i n) [
  | inl inside ↦ inside
  | inr past ↦ (let e = get_or_past marks i false (omega arith) in absurd (cc))
]

pub command_inside : (commands : List (List Bool)) (n c d : ℕ) → length commands ≤ n →
    IsMarked (marks_of commands c) d → c < n
command_inside commands n c d count m = elim (cases_lt c n) [
  | inl inside ↦ inside
  | inr past ↦ (let e = get_or_past commands c [] (omega arith) in let none : IsMarked [] d = rw e at m in absurd (cc))
]

-- nothing was added
pub adds_none : (P : ℕ → Type 0) (marks : List Bool) → ((n : ℕ) → P n → ⊥) → Adds P marks marks
adds_none P marks none = record {
  each = λ n. (
    inl,
    λ (w : IsMarked marks n ⊎ P n).
        elim w [ inl m ↦ m | inr p ↦ absurd (none n p) ],
  );
}

-- the same said in another way
pub adds_same : {P : ℕ → Type 0} {old new : List Bool} (Q : ℕ → Type 0) → ((n : ℕ) → P n → Q n) →
    ((n : ℕ) → Q n → P n) → Adds P old new → Adds Q old new
adds_same {P} {old} {new} Q to from a = record {
  each = λ n. (
    λ (m : IsMarked new n). (let w = (a.each n).0 m in elim w [ inl o ↦ inl o | inr p ↦ inr (to n p) ]),
    λ (w : IsMarked old n ⊎ Q n). elim w [ inl o ↦ (a.each n).1 (inl o) | inr q ↦ (a.each n).1 (inr (from n q)) ],
  );
}

-- one after the other
pub adds_both : {P Q : ℕ → Type 0} {old mid new : List Bool} → Adds P old mid → Adds Q mid new →
    Adds (λ n. P n ⊎ Q n) old new
adds_both {P} {Q} {old} {mid} {new} a b = record {
  each = λ n. (
    λ (m : IsMarked new n). (let w = (b.each n).0 m in elim w [
      | inl o ↦ (let v = (a.each n).0 o in elim v [ inl first ↦ inl first | inr p ↦ inr (inl p) ])
      | inr q ↦ inr (inr q)
    ]),
    λ (w : IsMarked old n ⊎ (P n ⊎ Q n)). elim w [
      | inl o ↦ (b.each n).1 (inl ((a.each n).1 (inl o)))
      | inr pq ↦ elim pq [
        | inl p ↦ (b.each n).1 (inl ((a.each n).1 (inr p)))
        | inr q ↦ (b.each n).1 (inr q)
      ]
    ],
  );
}

-- ---- in a loop over a list

pub adds_more : {X : Type 0} (Q : X → ℕ → Type 0) (xs : List X) (i : ℕ) (d : X) {old mid new : List Bool} →
    i < length xs →
    Adds (SomeOf Q (take i xs)) old mid → Adds (Q (get_or xs i d)) mid new → Adds (SomeOf Q (take (i + 1) xs)) old new
adds_more Q xs i d inside a b =
    adds_same (SomeOf Q (take (i + 1) xs)) (λ n w. any_more (λ x. Q x n) xs i d inside w)
    (λ n any. any_of_more (λ x. Q x n) xs i d inside any) (adds_both a b)

-- the same for an item as it was read
pub adds_item : {X : Type 0} (Q : X → ℕ → Type 0) (xs : List X) (i : ℕ) (x : X) {old mid new : List Bool} →
    i < length xs → x ≡ get_or xs i x →
    Adds (SomeOf Q (take i xs)) old mid → Adds (Q x) mid new → Adds (SomeOf Q (take (i + 1) xs)) old new
adds_item {X} Q xs i x {old} {mid} {new} inside is a b =
    adds_more Q xs i x inside a (subst (λ (y : X). Adds (Q y) mid new) is b)

-- ---- in a loop over numbers

pub below_first : (Q : ℕ → ℕ → Type 0) (marks : List Bool) → Adds (SomeBelow Q 0) marks marks
below_first Q marks = adds_none (SomeBelow Q 0) marks (λ n s. let b = s.below in omega arith)

some_below_more : (Q : ℕ → ℕ → Type 0) (i n : ℕ) → SomeBelow Q i n ⊎ Q i n → SomeBelow Q (i + 1) n
some_below_more Q i n (inl s) = record { k = s.k; below = (let b = s.below in omega arith); stands = s.stands }
some_below_more Q i n (inr q) = record { k = i; below = omega arith; stands = q }

some_below_of : (Q : ℕ → ℕ → Type 0) (i n : ℕ) → SomeBelow Q (i + 1) n → SomeBelow Q i n ⊎ Q i n
some_below_of Q i n s = elim (cases_lt s.k i) [
  | inl before ↦ inl (record { k = s.k; below = before; stands = s.stands })
  | inr on ↦ (let b = s.below in let e : s.k ≡ i = omega arith in inr (subst (λ (j : ℕ). Q j n) e s.stands))
]

pub below_more : (Q : ℕ → ℕ → Type 0) (i : ℕ) {old mid new : List Bool} → Adds (SomeBelow Q i) old mid →
    Adds (Q i) mid new → Adds (SomeBelow Q (i + 1)) old new
below_more Q i a b = adds_same (SomeBelow Q (i + 1)) (λ n w. some_below_more Q i n w) (λ n s. some_below_of Q i n s)
    (adds_both a b)

-- ---- from nothing

pub none_marked : (count n : ℕ) → IsMarked (replicate count false) n → ⊥
none_marked count n m = let e = get_or-replicate_any count n false in cc

pub marks_from_none : {P : ℕ → Type 0} (count : ℕ) {new : List Bool} → Adds P (replicate count false) new →
    AreMarks P new
marks_from_none {P} count {new} a = record {
  each = λ n. (
    λ (m : IsMarked new n). (let w = (a.each n).0 m in elim w [ inl o ↦ absurd (none_marked count n o) | inr p ↦ p ]),
    λ (p : P n). (a.each n).1 (inr p),
  );
}

-- a loop over all items, begun with no mark
pub marks_of_all : {X : Type 0} (Q : X → ℕ → Type 0) (xs : List X) (P : ℕ → Type 0) (i count : ℕ) {new : List Bool} →
    length xs ≤ i →
    ((n : ℕ) → SomeOf Q xs n → P n) → ((n : ℕ) → P n → SomeOf Q xs n) →
    Adds (SomeOf Q (take i xs)) (replicate count false) new → AreMarks P new
marks_of_all {X} Q xs P i count {new} end to from a =
    marks_from_none count (adds_same P to from (subst (λ (ys : List X). Adds (SomeOf Q ys) (replicate count false) new)
    (take_all i xs end) a))

-- ---- commands with their parameters

pub adds_at_more : {X : Type 0} (Q : X → ℕ → ℕ → Type 0) (xs : List X) (i : ℕ) (d : X) {old mid new : List (List Bool)}
    → i < length xs →
    AddsAt (SomeAt Q (take i xs)) old mid → AddsAt (Q (get_or xs i d)) mid new →
    AddsAt (SomeAt Q (take (i + 1) xs)) old new
adds_at_more Q xs i d inside a b = record {
  whole = b.whole;
  each = λ c.
      adds_more (λ y. Q y c) xs i d inside (a.each c) (b.each c);
}

pub adds_at_same : {P : ℕ → ℕ → Type 0} {old new : List (List Bool)} (Q : ℕ → ℕ → Type 0) →
    ((c d : ℕ) → P c d → Q c d) → ((c d : ℕ) → Q c d → P c d) →
    AddsAt P old new → AddsAt Q old new
adds_at_same Q to from a = record { whole = a.whole; each = λ c. adds_same (Q c) (to c) (from c) (a.each c) }

pub below_at_more : (Q : ℕ → ℕ → ℕ → Type 0) (i : ℕ) {old mid new : List (List Bool)} →
    AddsAt (SomeBelowAt Q i) old mid → AddsAt (Q i) mid new →
    AddsAt (SomeBelowAt Q (i + 1)) old new
below_at_more Q i a b = record { whole = b.whole; each = λ c. below_more (λ k. Q k c) i (a.each c) (b.each c) }

none_past : (n m c k : ℕ) → n ≤ c → IsMarked (marks_of (replicate n (replicate m false)) c) k → ⊥
none_past n m c k past h =
    let e = get_or_past (replicate n (replicate m false)) c [] (rw length-replicate past) in
    let none : IsMarked [] k = rw e at h in
    cc

none_marked_at : (n m c k : ℕ) → IsMarked (marks_of (replicate n (replicate m false)) c) k → ⊥
none_marked_at n m c k h = elim (cases_lt c n) [
  | inl inside ↦ none_marked m k (rw (get_or-replicate n c (replicate m false) [] inside) at h)
  | inr past ↦ none_past n m c k past h
]

pub marks_at_from_none : {P : ℕ → ℕ → Type 0} (n m : ℕ) {new : List (List Bool)} →
    AddsAt P (replicate n (replicate m false)) new → AreMarksAt P new
marks_at_from_none {P} n m {new} a = record {
  whole = a.whole;
  each = λ c. record {
    each = λ d. (
      λ (h : IsMarked (marks_of new c) d). (let w = ((a.each c).each d).0 h in
          elim w [ inl o ↦ absurd (none_marked_at n m c d o) | inr p ↦ p ]),
      λ (p : P c d). ((a.each c).each d).1 (inr p),
    );
  };
}
